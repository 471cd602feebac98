use Rattle.std.specs.Prelude.{◌≡◌, ◌<◌, ℕ, IsTrue, Some, slice_get}
use Rattle.yw_proper.proofs.certificate.check_weights.Given as goal
use Rattle.yw_proper.specs.Proper.{is_weight}

abbrev pub invariant-loop-k : goal.invariant-loop-k
invariant-loop-k l = (j n : ℕ) → j < l.k → slice_get l.weights j ≡ Some n → IsTrue (is_weight n)
