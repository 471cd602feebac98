use Rattle.std.proofs.Common.{◌≡◌, map, take}
use Rattle.serde_json.specs.View.{view}
use Rattle.yw_proof.specs.Weights.{number_under}
use Rattle.yw_proof.proofs.weights.weights_in.Given as goal

-- the numbers under the names so far
abbrev pub invariant-loop-name : goal.invariant-loop-name
invariant-loop-name l = l.numbers ≡ map (number_under (view l.weights)) (take l.name-index l.names)
