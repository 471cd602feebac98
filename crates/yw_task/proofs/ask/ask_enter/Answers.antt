use Rattle.std.proofs.Common.{Bool, ap, false, subst, sym, true, ◌∙◌}
use Rattle.std.specs.Prelude.{is_some, not}
use Rattle.yw_spec.specs.declared.task.Task.{Task}
use Rattle.yw_task.proofs.EnterAsk.{asks_active, asks_none, asks_tokens, asks_waits, of_task_at}
use Rattle.yw_task.proofs.ask.ask_enter.Goals as goal
use Rattle.yw_task.specs.Asked.{OrWaitsAs}

pub returns-then-is_active-clause-first : goal.returns-then-is_active-clause-first
returns-then-is_active-clause-first c = asks_active c.args.net.now c.args.state.now c.args.t (sym c.is_active.ensures ∙ c.if-is_active.true)

pub returns-then-is_none-clause-first : goal.returns-then-is_none-clause-first
returns-then-is_none-clause-first c =
    asks_tokens c.args.net.now c.args.state.now c.args.t (is_some c.join_choice.result) (sym c.is_active.ensures ∙ c.if-is_active.false) c.join_choice.ensures.has
    (c.is_none.ensures ∙ ap not c.if-is_none.true)

pub returns-then-or_waits-clause-first : goal.returns-then-or_waits-clause-first
returns-then-or_waits-clause-first c =
    asks_waits c.args.net.now c.args.state.now c.args.t (is_some c.join_choice.result) (sym c.is_active.ensures ∙ c.if-is_active.false) c.join_choice.ensures.has
    (c.is_none.ensures ∙ ap not c.if-is_none.false)
    (of_task_at c.args.net.now c.args.t (λ (u : Task). OrWaitsAs c.args.net.now c.args.state.now u true) c.task_at.result.now c.task_at.ensures
    (subst (λ (b : Bool). OrWaitsAs c.args.net.now c.args.state.now c.task_at.result.now b) c.if-or_waits.true c.or_waits.ensures))

pub returns-clause-first : goal.returns-clause-first
returns-clause-first c =
    asks_none c.args.net.now c.args.state.now c.args.t (is_some c.join_choice.result) (sym c.is_active.ensures ∙ c.if-is_active.false) c.join_choice.ensures.has
    (c.is_none.ensures ∙ ap not c.if-is_none.false)
    (of_task_at c.args.net.now c.args.t (λ (u : Task). OrWaitsAs c.args.net.now c.args.state.now u false) c.task_at.result.now c.task_at.ensures
    (subst (λ (b : Bool). OrWaitsAs c.args.net.now c.args.state.now c.task_at.result.now b) c.if-or_waits.false c.or_waits.ensures))
