use Rattle.std.proofs.Common.{subst, take_all}
use Rattle.yw_state.proofs.Tests.{never}
use Rattle.yw_worklist.proofs.Noting.{touched_more}
use Rattle.yw_worklist.proofs.touched.touched.Goals as goal
use Rattle.yw_worklist.specs.Touched.{HasTouched}

pub loop-event-init : goal.loop-event-init
loop-event-init c = λ j identity none. never none

pub loop-event-preserved : goal.loop-event-preserved
loop-event-preserved c =
    touched_more c.args.places.now c.args.forest.now c.args.events.now c.loop-event.event-index c.event-item.result c.loop-event.ids c.add_touched.new.ids
    c.loop-event-test.true c.event-item.is c.loop-event.invariant c.in_ok-add_touched.ensures

pub returns : goal.returns
returns c =
    subst (λ es. HasTouched c.args.places.now c.args.forest.now es c.loop-event.ids) (take_all c.loop-event.event-index c.args.events.now c.loop-event-test.false)
    c.loop-event.invariant
