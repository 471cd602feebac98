use Rattle.std.proofs.Common.{Bool, false, refl, subst, sym, true, ◌∙◌}
use Rattle.yw_breaks.proofs.enter.choice_of.Goals as goal
use Rattle.yw_spec.specs.declared.task.Task.{Task}
use Rattle.yw_task.proofs.EnterAsk.{asks_active, asks_none, asks_tokens, asks_waits, of_task_at}
use Rattle.yw_task.specs.Asked.{OrWaitsAs}

pub returns-then-is_active : goal.returns-then-is_active
returns-then-is_active c = asks_active c.args.here.now.net.now c.args.here.now.state.now c.args.t (sym c.is_active.ensures ∙ c.if-is_active.true)

pub returns-in_default : goal.returns-in_default
returns-in_default c =
    asks_tokens c.args.here.now.net.now c.args.here.now.state.now c.args.t false (sym c.is_active.ensures ∙ c.if-is_active.false) c.in_default.ensures.has refl

pub returns-then-or_waits : goal.returns-then-or_waits
returns-then-or_waits c =
    let net = c.args.here.now.net.now in
    let state = c.args.here.now.state.now in
    asks_waits net state c.args.t true (sym c.is_active.ensures ∙ c.if-is_active.false) c.in-Some.ensures.has refl
    (of_task_at net c.args.t (λ (u : Task). OrWaitsAs net state u true) c.task_at.result.now c.task_at.ensures
    (subst (λ (b : Bool). OrWaitsAs net state c.task_at.result.now b) c.if-or_waits.true c.or_waits.ensures))

pub returns : goal.returns
returns c =
    let net = c.args.here.now.net.now in
    let state = c.args.here.now.state.now in
    let idle = sym c.is_active.ensures ∙ c.if-is_active.false in
    let goes = of_task_at net c.args.t (λ (u : Task). OrWaitsAs net state u false) c.task_at.result.now c.task_at.ensures
    (subst (λ (b : Bool). OrWaitsAs net state c.task_at.result.now b) c.if-or_waits.false c.or_waits.ensures) in
    record {
      asks = asks_none net state c.args.t true idle c.in-Some.ensures.has refl goes;
      idle = idle;
      chooses = c.in-Some.ensures.chooses;
      tokens = c.in-Some.ensures.has;
      goes = goes;
    }
