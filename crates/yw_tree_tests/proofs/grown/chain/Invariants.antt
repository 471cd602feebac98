use Rattle.yw_tree_tests.specs.Grown.{Grown}
use Rattle.yw_tree_tests.proofs.grown.chain.Given as goal

abbrev pub invariant-loop : goal.invariant-loop
invariant-loop l = Grown l.forest l.n
