use Rattle.std.proofs.Common.{Bool, false, refl, subst, sym, ◌∙◌, ◌≡◌}
use Rattle.yw_enabled.proofs.EnterLaw.{comes_in, out_active, out_unmade, out_waiting, out_without}
use Rattle.yw_enabled.proofs.entered.may_be_entered.Goals as goal
use Rattle.yw_enabled.specs.Entered.{MakesRows}
use Rattle.yw_spec.specs.declared.task.Task.{Task}
use Rattle.yw_task.proofs.EnterAsk.{of_task_at}
use Rattle.yw_task.specs.Asked.{OrWaitsAs}
use Rattle.yw_task.specs.Giving.{entry_rows}
use Rattle.yw_tree.specs.declared.NetState.{out-NetState}

pub returns-then-is_active-clause-none : goal.returns-then-is_active-clause-none
returns-then-is_active-clause-none c = λ none. out_active c.args.net.now c.args.state.now c.args.t c.args.first (sym c.is_active.ensures ∙ c.if-is_active.true)

pub returns-in_default-clause-none : goal.returns-in_default-clause-none
returns-in_default-clause-none c = λ none. out_without c.args.net.now c.args.state.now c.args.t c.args.first false c.in_default.ensures.has refl

pub returns-then-or_waits-clause-none : goal.returns-then-or_waits-clause-none
returns-then-or_waits-clause-none c = λ none.
    out_waiting c.args.net.now c.args.state.now c.args.t c.args.first c.task_at-task.result.now c.task_at-task.ensures
    (subst (λ (b : Bool). OrWaitsAs c.args.net.now c.args.state.now c.task_at-task.result.now b) c.if-or_waits.true c.or_waits.ensures)

pub returns-in-Some-2-clause-some : goal.returns-in-Some-2-clause-some
returns-in-Some-2-clause-some c =
    let net = c.args.net.now in
    let state = c.args.state.now in
    let own = c.task_at-task.result.now in
    let vals = (out-NetState state).vals in
    let are = subst (MakesRows own vals c.args.first) c.in-Some-2.is c.in_ok-rows.ensures in
    let goes = subst (λ (b : Bool). OrWaitsAs net state own b) c.if-or_waits.false c.or_waits.ensures in
    record {
      enters = comes_in net state c.args.t c.args.first own c.task_at-task.ensures c.in-Some.taken (sym c.is_active.ensures ∙ c.if-is_active.false)
          c.in-Some.ensures.chooses c.in-Some.ensures.has goes are.made;
      gives = of_task_at net c.args.t (λ (u : Task). c.in-Some-2.rows.items ≡ entry_rows u vals) own c.task_at-task.ensures are.gives;
    }

pub returns-in-None-clause-none : goal.returns-in-None-clause-none
returns-in-None-clause-none c = λ none.
    let state = c.args.state.now in
    let own = c.task_at-task.result.now in
    out_unmade c.args.net.now state c.args.t c.args.first own c.task_at-task.ensures
    (subst (MakesRows own (out-NetState state).vals c.args.first) c.in-None.is c.in_ok-rows.ensures)
