use Rattle.std.proofs.Common.{None, Option, Some, subst, sym, ◌∙◌, ◌≡◌}
use Rattle.yw_breaks.proofs.Enters.{net_breaks, values_break, worker_breaks}
use Rattle.yw_breaks.proofs.enter.enter_by.Goals as goal
use Rattle.yw_breaks.specs.Enter.{EnterBreaks, FindsRows}
use Rattle.yw_breaks.specs.Finds.{ByHeld}
use Rattle.yw_breaks.specs.Persons.{worker_rule}
use Rattle.yw_state.specs.declared.rule.Refusal.{Refusal}
use Rattle.yw_tree.specs.declared.NetState.{out-NetState}

pub returns-in-Some : goal.returns-in-Some
returns-in-Some c =
    let f = c.args.forest.now in
    let i = c.args.at.now in
    let roles = c.args.roles.now in
    let here = c.args.here.now in
    let u = c.task_at-task.result.now in
    subst (λ (x : Refusal). EnterBreaks f i roles here c.args.t c.args.next (Some x)) (sym c.placeless.ensures)
    (worker_breaks f i roles here c.args.t c.args.next u c.task_at-task.ensures c.in-Some.rule c.in-Some.ensures)

pub returns-in-Err : goal.returns-in-Err
returns-in-Err c =
    let f = c.args.forest.now in
    let i = c.args.at.now in
    let roles = c.args.roles.now in
    let here = c.args.here.now in
    let u = c.task_at-task.result.now in
    let free : ByHeld f i (λ held. None ≡ worker_rule roles u held) = λ known s h. sym c.in_default.is ∙ c.worker_rule.ensures known s h in
    subst (λ (x : Refusal). EnterBreaks f i roles here c.args.t c.args.next (Some x)) (sym c.placeless-in-Err.ensures)
    (net_breaks f i roles here c.args.t c.args.next u c.task_at-task.ensures free c.in-Err.rule c.in-Err.ensures)

pub rows_of-requires : goal.rows_of-requires
rows_of-requires c = (c.requires.within.within.each_task c.args.t c.task_at-task.result.now c.task_at-task.ensures).element

pub returns-in-Ok-2 : goal.returns-in-Ok-2
returns-in-Ok-2 c =
    let f = c.args.forest.now in
    let i = c.args.at.now in
    let roles = c.args.roles.now in
    let here = c.args.here.now in
    let t = c.args.t in
    let next = c.args.next in
    let u = c.task_at-task.result.now in
    let free : ByHeld f i (λ held. None ≡ worker_rule roles u held) = λ known s h. sym c.in_default.is ∙ c.worker_rule.ensures known s h in
    let given = subst (FindsRows u (out-NetState here.state.now).vals next) c.in-Ok-2.is c.in_ok-rows-in-Ok.ensures in (
      subst (λ (o : Option Refusal). EnterBreaks f i roles here t next o) (sym given.unbroken)
          (values_break f i roles here t next u c.task_at-task.ensures free c.in-Ok.ensures.asks),
      record { chosen = c.in-Ok.ensures; task = u; at = c.task_at-task.ensures; fit = given.fit; gives = given.gives },
    )

pub returns-in-Err-2 : goal.returns-in-Err-2
returns-in-Err-2 c =
    let f = c.args.forest.now in
    let i = c.args.at.now in
    let roles = c.args.roles.now in
    let here = c.args.here.now in
    let t = c.args.t in
    let next = c.args.next in
    let u = c.task_at-task.result.now in
    let free : ByHeld f i (λ held. None ≡ worker_rule roles u held) = λ known s h. sym c.in_default.is ∙ c.worker_rule.ensures known s h in
    let found = subst (FindsRows u (out-NetState here.state.now).vals next) c.in-Err-2.is c.in_ok-rows-in-Ok.ensures in
    subst (λ (o : Option Refusal). EnterBreaks f i roles here t next o) (sym found)
    (values_break f i roles here t next u c.task_at-task.ensures free c.in-Ok.ensures.asks)
