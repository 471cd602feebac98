use Rattle.std.proofs.Common.{◌≡◌, map, take}
use Rattle.yw_spec.specs.Net.{place_text}
use Rattle.yw_proof.proofs.weights.place_names.Given as goal

-- the texts of the places so far
abbrev pub invariant-loop-place : goal.invariant-loop-place
invariant-loop-place l = l.names ≡ map place_text (take l.place-index l.places)
