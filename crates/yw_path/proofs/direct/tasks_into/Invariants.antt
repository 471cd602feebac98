use Rattle.yw_path.proofs.direct.tasks_into.Given as goal
use Rattle.yw_path.specs.Direct.{AreInto}

abbrev pub invariant-loop-t : goal.invariant-loop-t
invariant-loop-t l = AreInto l.net l.t l.into.items
