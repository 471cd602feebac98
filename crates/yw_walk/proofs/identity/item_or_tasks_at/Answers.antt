use Rattle.std.proofs.Common.{subst}
use Rattle.yw_enabled.proofs.Results.{ok_then}
use Rattle.yw_walk.proofs.AllRest.{below_there}
use Rattle.yw_walk.proofs.identity.item_or_tasks_at.Goals as goal
use Rattle.yw_walk.specs.Finds.{FindsStep}

pub returns-in-Some : goal.returns-in-Some
returns-in-Some c = λ known f is stands tells s w.
    let j = c.args.id.now in
    let ends = c.is_at_end.result in
    subst (FindsStep known f j ends) c.in-Some.is (c.in_ok-found.ensures known f is) s w.held w.free (c.is_at_end.ensures known f j stands s w.held)

pub returns-in-None : goal.returns-in-None
returns-in-None c = λ known f is stands tells.
    let j = c.args.id.now in
    let ends = c.is_at_end.result in
    ok_then c.tasks_at.result _ _ (c.tasks_at.ensures known f stands tells)
    (λ found tasks. below_there known f j c.args.next ends (c.is_at_end.ensures known f j stands)
    (subst (FindsStep known f j ends) c.in-None.is (c.in_ok-found.ensures known f is)) found tasks)
