use Rattle.std.proofs.Common.{ℕ, List, Result, Ok, Err, inl, refl, inr, sym, subst}
use Rattle.std.specs.Prelude.{OnErr, IfErr}
use Rattle.yw_serve.specs.Plans.{CanBeAppended, Does}
use Rattle.yw_serve.specs.declared.server.Stop.TheVariants.{Memory}
use Rattle.yw_serve.proofs.FaultLemmas.{faults_as, if_err_as}
use Rattle.yw_serve.proofs.Growing.{grows_as}
use Rattle.yw_serve.proofs.server.Server.answer.Goals as goal

both_err : {T E : Type 0} (r : Result T E) (P : Type 0) (Q R : E → Type 0) → OnErr r P → IfErr r Q → ((e : E) → P → Q e → R e) → IfErr r R
both_err (Ok x) P Q R p q f = tt
both_err (Err e) P Q R p q f = f e p q

pub carry_out-requires-clause-framed : goal.carry_out-requires-clause-framed
carry_out-requires-clause-framed g c = subst (λ (l : List ℕ). CanBeAppended l c.in_ok-plan.plan) (sym c.as_slice.ensures.value) c.in_ok-plan.ensures.framed

pub returns-in_err-plan-clause-err : goal.returns-in_err-plan-clause-err
returns-in_err-plan-clause-err g c = if_err_as c.from_residual.result Memory _ c.from_residual.ensures.1 (λ tells content current. inl (refl, refl))

pub returns-in_err-plan-clause-grows : goal.returns-in_err-plan-clause-grows
returns-in_err-plan-clause-grows g c = grows_as c.from_residual.result Memory _ _ c.from_residual.ensures.1 tt

pub returns-in_err-plan-clause-faults : goal.returns-in_err-plan-clause-faults
returns-in_err-plan-clause-faults g c =
    let desk = c.args.desk.now in
    faults_as g.D.Desk desk desk c.from_residual.result Memory c.from_residual.ensures.1 (record { disk = refl; say = refl })

pub returns-in_err-carry_out-clause-err : goal.returns-in_err-carry_out-clause-err
returns-in_err-carry_out-clause-err g c =
    let stop = c.in_err-carry_out.field-0.0 in
    if_err_as c.from_residual-in_err-carry_out.result stop _ c.from_residual-in_err-carry_out.ensures.1 (λ tells content current.
    let plan = c.in_ok-plan.ensures.plan in
    let does = subst (λ (l : List ℕ). Does c.in_ok-plan.plan l plan.step) (sym c.as_slice.ensures.value) plan.does in
    inr (record {
      step = plan.step;
      after = _;
      answers = plan.answers;
      moments = c.in_err-carry_out.ensures.moments tells content current plan.step does;
      why = c.in_err-carry_out.ensures.why tells content current plan.step does;
    }))

pub returns-in_err-carry_out-clause-grows : goal.returns-in_err-carry_out-clause-grows
returns-in_err-carry_out-clause-grows g c =
    grows_as c.from_residual-in_err-carry_out.result c.in_err-carry_out.field-0.0 _ _ c.from_residual-in_err-carry_out.ensures.1 c.in_err-carry_out.ensures.grows

pub returns-in_err-carry_out-clause-faults : goal.returns-in_err-carry_out-clause-faults
returns-in_err-carry_out-clause-faults g c =
    faults_as g.D.Desk c.args.desk.now c.carry_out.new.desk c.from_residual-in_err-carry_out.result c.in_err-carry_out.field-0.0
    c.from_residual-in_err-carry_out.ensures.1 c.in_err-carry_out.ensures.faults

pub returns-clause-ok : goal.returns-clause-ok
returns-clause-ok g c = λ tells content current.
    let plan = c.in_ok-plan.ensures.plan in
    let does = subst (λ (l : List ℕ). Does c.in_ok-plan.plan l plan.step) (sym c.as_slice.ensures.value) plan.does in
    record {
      ends = record { step = plan.step; answers = plan.answers; are_done = c.in_ok-carry_out.ensures.ok tells content current plan.step does };
      buffer = _;
      does = does;
    }
