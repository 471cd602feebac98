use Rattle.std.proofs.Common.{take}
use Rattle.yw_worklist.proofs.touched.touched.Given as goal
use Rattle.yw_worklist.specs.Touched.{HasTouched}

abbrev pub invariant-loop-event : goal.invariant-loop-event
invariant-loop-event l = HasTouched l.places l.forest (take l.event-index l.events) l.ids
