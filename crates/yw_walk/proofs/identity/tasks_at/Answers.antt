use Rattle.std.proofs.Common.{Some, subst}
use Rattle.yw_enabled.proofs.Results.{ok_then}
use Rattle.yw_walk.proofs.NetThere.{left_there, tasks_there}
use Rattle.yw_walk.proofs.identity.tasks_at.Goals as goal
use Rattle.yw_walk.specs.Finds.{FindsLeft, StandsAt}

pub returns-in-Some-2 : goal.returns-in-Some-2
returns-in-Some-2 c = λ known f stands tells s w.
    let here = c.in-Some.here in
    let is = subst (StandsAt known f c.args.at.now) c.in-Some.is stands s w.held in
    left_there known f c.args.next s c.args.at.now w here is
    (Some c.in-Some-2.found)
    (subst (FindsLeft here c.args.at.now) c.in-Some-2.is (c.in_ok-found.ensures (tells here.state.now is.stands.found)))

pub returns-in-None : goal.returns-in-None
returns-in-None c = λ known f stands tells.
    let here = c.in-Some.here in
    ok_then c.entry_at.result _ _ c.entry_at.ensures
    (λ found entered s w.
    let is = subst (StandsAt known f c.args.at.now) c.in-Some.is stands s w.held in
    tasks_there known f c.args.next s c.args.at.now w here is c.chosen_in.result.now (c.chosen_in.ensures s c.args.at.now)
    (subst (FindsLeft here c.args.at.now) c.in-None.is (c.in_ok-found.ensures (tells here.state.now is.stands.found))) found entered)
