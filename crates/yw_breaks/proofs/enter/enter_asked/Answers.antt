use Rattle.std.proofs.Common.{None, Some, refl, subst, sym}
use Rattle.yw_breaks.proofs.Enters.{named_breaks, no_task, unknown_task}
use Rattle.yw_breaks.proofs.enter.enter_asked.Goals as goal
use Rattle.yw_breaks.specs.Enter.{EntersBy}
use Rattle.yw_breaks.specs.Tables.{enter_rest}
use Rattle.yw_state.specs.Broken.{First}
use Rattle.yw_state.specs.declared.rule.Refusal.{Refusal}

pub returns-in-None : goal.returns-in-None
returns-in-None c = λ known who has says s h manual drawn.
    let i = c.args.at.now in
    let name = c.args.name.now in
    subst (λ (x : Refusal). First (enter_rest s who i name) (Some x)) (sym c.placeless.ensures)
    (unknown_task s who i name (no_task known c.args.forest.now s i c.args.here.now name (says s h) (c.in-None.ensures.none refl)))

pub returns-in-Ok : goal.returns-in-Ok
returns-in-Ok c =
    let f = c.args.forest.now in
    let i = c.args.at.now in
    let roles = c.args.roles.now in
    let here = c.args.here.now in
    let next = c.args.next in
    let t = c.in-Some.task in
    let is = c.in-Some.ensures.some in
    let by = subst (EntersBy f i roles here t next) c.in-Ok.is c.in_ok-taken-in-Some.ensures in
    record {
      unbroken = named_breaks f i roles here t next c.args.name.now is None by.0;
      named = is;
      enterable = by.1;
    }

pub returns-in-Err : goal.returns-in-Err
returns-in-Err c =
    let f = c.args.forest.now in
    let i = c.args.at.now in
    let roles = c.args.roles.now in
    let here = c.args.here.now in
    let next = c.args.next in
    let t = c.in-Some.task in
    let breaks = subst (EntersBy f i roles here t next) c.in-Err.is c.in_ok-taken-in-Some.ensures in
    named_breaks f i roles here t next c.args.name.now c.in-Some.ensures.some (Some c.in-Err.refusal) breaks
