use Rattle.yw_base.specs.Identity.{child}
use Rattle.yw_worklist.proofs.Warming.{is_so_far}
use Rattle.yw_worklist.proofs.warm.add_items.Given as goal
use Rattle.yw_worklist.specs.Touched.{Adds}

abbrev pub invariant-loop-k : goal.invariant-loop-k
invariant-loop-k l = Adds l.fn.ids l.ids (is_so_far (child l.net) l.first l.k)
