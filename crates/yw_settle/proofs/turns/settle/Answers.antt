use Rattle.yw_settle.proofs.Coming.{one_more}
use Rattle.yw_settle.proofs.turns.settle.Goals as goal

pub loop-taken-preserved : goal.loop-taken-preserved
loop-taken-preserved g c =
    let M = g.M.Machine in
    let more = one_more M.passes (M.state c.args.machine.now) c.args.case c.args.events.now (M.state c.loop-taken.machine) (M.state c.step.new.self)
    c.loop-taken.events c.push.new.self c.loop-taken._taken c.in-Some.event c.in_ok-event.field-0
    c.loop-taken.invariant.0 c.in_ok-event.ensures.found c.in-Some.is c.in_ok-push-in-Some.ensures.ok in
    (more, c.in_ok-event.ensures.ready)
