use Rattle.std.proofs.Common.{◌+◌}
use Rattle.yw_tree_tests.specs.Grown.{Grown}
use Rattle.yw_tree_tests.proofs.grown.grown.Given as goal

abbrev pub invariant-loop-k : goal.invariant-loop-k
invariant-loop-k l = Grown l.forest (l.k + 1)
