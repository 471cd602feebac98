use Rattle.std.proofs.Common.{Some, refl, subst, sym}
use Rattle.yw_breaks.proofs.Adds.{unknown_task}
use Rattle.yw_breaks.proofs.Enters.{no_task}
use Rattle.yw_breaks.proofs.add.add_asked.Goals as goal
use Rattle.yw_breaks.specs.Events.{AddMakes}
use Rattle.yw_breaks.specs.Tables.{add_rest}
use Rattle.yw_state.specs.Broken.{First}
use Rattle.yw_state.specs.declared.rule.Refusal.{Refusal}

pub returns-in-None : goal.returns-in-None
returns-in-None c = λ known who has says s h drawn.
    let i = c.args.at in
    let name = c.args.task in
    let value = c.args.value in
    subst (λ (x : Refusal). First (add_rest s who i name value) (Some x)) (sym c.placeless.ensures)
    (unknown_task s who i name value (no_task known c.args.forest.now s i c.args.here.now name (says s h) (c.in-None.ensures.none refl)))

pub returns-in-Ok : goal.returns-in-Ok
returns-in-Ok c =
    let makes = AddMakes c.args.forest.now c.args.roles.now c.args.here.now c.args.next c.args.at c.args.task c.args.value in
    (subst makes c.in-Ok.is c.in_ok-event-in-Some.ensures, c.in-Some.ensures.some)

pub returns-in-Err : goal.returns-in-Err
returns-in-Err c =
    let makes = AddMakes c.args.forest.now c.args.roles.now c.args.here.now c.args.next c.args.at c.args.task c.args.value in
    subst makes c.in-Err.is c.in_ok-event-in-Some.ensures
