use Rattle.std.proofs.Common.{take}
use Rattle.yw_worklist.proofs.Warming.{is_so_far}
use Rattle.yw_worklist.proofs.warm.add_way.Given as goal
use Rattle.yw_worklist.specs.Touched.{Adds}

abbrev pub invariant-loop-k : goal.invariant-loop-k
invariant-loop-k l = Adds l.fn.ids l.ids (is_so_far (λ k. take k l.fn.run) 0 l.k)
