use Rattle.std.proofs.Common.{◌≡◌, ◌++◌, map, string_bytes, take}
use Rattle.yw_lines.specs.EventTexts.{listed}
use Rattle.yw_spec.specs.Net.{place_text}
use Rattle.yw_wire.proofs.steps.add_places.Given as goal

abbrev pub invariant-loop-k : goal.invariant-loop-k
invariant-loop-k l = string_bytes l.text ≡ string_bytes l.initial.text ++ listed (map place_text (take l.k l.places))
