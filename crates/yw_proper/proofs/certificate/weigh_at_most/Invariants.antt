use Rattle.std.proofs.Common.{◌≡◌, ◌+◌, take}
use Rattle.yw_proper.proofs.certificate.weigh_at_most.Given as goal
use Rattle.yw_proper.specs.Proper.{weight_of_each}

abbrev pub invariant-loop-place : goal.invariant-loop-place
invariant-loop-place l = l.left + weight_of_each l.weights (take l.place-index l.places) ≡ l.own
