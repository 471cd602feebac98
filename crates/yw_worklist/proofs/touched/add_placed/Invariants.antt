use Rattle.yw_worklist.proofs.Ranging.{Takes}
use Rattle.yw_worklist.proofs.touched.add_placed.Given as goal
use Rattle.yw_worklist.specs.Lists.{has_place}

abbrev pub invariant-loop-at : goal.invariant-loop-at
invariant-loop-at l = Takes l.fn.ids l.ids (has_place l.fn.places) l.at-iterator
