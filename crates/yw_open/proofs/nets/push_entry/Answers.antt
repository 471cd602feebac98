use Rattle.std.proofs.lemmas.Result.{on_ok_weaker}
use Rattle.yw_open.proofs.Listing.{added, kept}
use Rattle.yw_open.proofs.nets.push_entry.Goals as goal

pub returns-then-not-person_may_enter : goal.returns-then-not-person_may_enter
returns-then-not-person_may_enter c =
    kept c.args.here.now c.args.t c.is_chosen.result c.is_chosen.ensures c.person_may_enter.result c.person_may_enter.ensures
    c.args.opens.now c.if-not-person_may_enter.true

pub returns : goal.returns
returns c =
    on_ok_weaker c.push.result
    (λ pushed.
    added c.args.here.now c.args.t c.is_chosen.result c.is_chosen.ensures c.person_may_enter.result c.person_may_enter.ensures
    c.task_at-task.result.now c.task_at-task.ensures c.args.opens.now c.push.new.self c.in_ok-entry_of.field-0 c.in_ok-entry_of.ensures
    pushed c.if-not-person_may_enter.false) c.push.ensures.ok
