use Rattle.std.specs.Map.{keys_of}
use Rattle.yw_worklist.proofs.Ranging.{Ahead, Takes, under_placed}
use Rattle.yw_worklist.proofs.touched.add_under.Given as goal

abbrev pub invariant-loop-at : goal.invariant-loop-at
invariant-loop-at l = Takes l.fn.ids l.ids (under_placed l.top l.fn.places l.forest) (keys_of l.at-iterator) × Ahead l.top (keys_of l.at-iterator)
