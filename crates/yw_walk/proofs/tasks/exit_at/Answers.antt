use Rattle.std.proofs.Common.{subst}
use Rattle.yw_enabled.specs.Left.{LeavesFirst}
use Rattle.yw_walk.proofs.Leaving.{finds_left, finds_none_left}
use Rattle.yw_walk.proofs.tasks.exit_at.Goals as goal

pub returns-in_ok-exit_of-in-Some : goal.returns-in_ok-exit_of-in-Some
returns-in_ok-exit_of-in-Some c = λ tells.
    let here = c.args.here.now in
    finds_left here c.args.at.now c.in-Some.t c.in-Some.outcome c.in_ok-exit_of-in-Some.field-0
    (subst (LeavesFirst here.net.now here.state.now) c.in-Some.is (c.in_ok-t.ensures.first tells)) c.in_ok-exit_of-in-Some.ensures

pub returns-in-None : goal.returns-in-None
returns-in-None c = λ tells.
    let here = c.args.here.now in
    finds_none_left here c.args.at.now (subst (LeavesFirst here.net.now here.state.now) c.in-None.is (c.in_ok-t.ensures.first tells))
