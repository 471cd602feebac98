use Rattle.std.proofs.Common.{Err, None, Ok, Some, refl, subst}
use Rattle.yw_breaks.proofs.Whole.{add_joins}
use Rattle.yw_breaks.specs.Events.{AddFinds}
use Rattle.yw_breaks.specs.Tables.{add_front, add_rest}
use Rattle.yw_cases.proofs.TaskHere.{its, named}
use Rattle.yw_cases.specs.Tried.{IsTaskNumbered}
use Rattle.yw_engine.proofs.Commands.{add_numbered}
use Rattle.yw_engine.proofs.Fronts.{behind, moving}
use Rattle.yw_engine.proofs.Parts.{next_of}
use Rattle.yw_engine.proofs.add.add_here.Goals as goal
use Rattle.yw_engine.specs.Decides.{Makes}
use Rattle.yw_standing.specs.State.{state_of}
use Rattle.yw_texts.specs.Texts.{reader}
use Rattle.yw_state.specs.declared.command.Command.TheVariants as commands
use Rattle.yw_tree.specs.declared.Forest.{Forest}

pub returns-in-Some : goal.returns-in-Some
returns-in-Some c =
    let h = c.args.work.now.standing in
    let s = state_of h in
    let who = c.args.who.now in
    let i = c.args.net in
    let t = c.args.task in
    let value = c.args.value in
    moving h (commands.Add who i t value) i (add_front s who i) (add_rest s who i t value) (add_joins reader s who i t value) c.requires.front
    c.args.quiet c.requires.rest c.breaks_quiet.result c.breaks_quiet.ensures c.in-Some.refusal c.in-Some.is

pub returns-in-Ok : goal.returns-in-Ok
returns-in-Ok c =
    let h = c.args.work.now.standing in
    let may = c.requires.stands in
    let s = state_of h in
    let who = c.args.who.now in
    let i = c.args.net in
    let t = c.args.task in
    let value = c.args.value in
    let w = c.args.asked.now.here in
    let next = c.next-next.result in
    let drawn = next_of h next c.next-next.ensures in
    let roles = c.args.asked.now.roles.now in
    let found =
    subst (λ (f : Forest). AddFinds f roles w next i t value (Ok c.in-Ok.found)) c.forest-forest.ensures
    (subst (AddFinds c.forest-forest.result.now roles w next i t value) c.in-Ok.is c.in_ok-found.ensures) in
    let made = found.0 h.known who c.requires.roles c.requires.says in
    let unbroken =
    behind h (commands.Add who i t value) i (add_front s who i) (add_rest s who i t value) (add_joins reader s who i t value) c.requires.front
    c.args.quiet c.requires.rest c.breaks_quiet.result c.breaks_quiet.ensures c.in_default.is None (made.0 s may.held drawn) in
    let makes : Makes h (commands.Add who i t value) (Ok c.in-Ok.found.event) = (unbroken, made.1 s may.held drawn) in
    let here = c.requires.says s may.held in
    let is = found.1 in
    let k = c.in-Ok.found.task in
    let numbered : IsTaskNumbered s i t k = record {
      of_task = its h i w here t k is.number is.task is.at;
      named = named h i w here t k is.number is.task is.at;
      number = refl;
    } in
    (makes, add_numbered h may who i t value c.in-Ok.found.event makes k numbered)

pub returns-in-Err : goal.returns-in-Err
returns-in-Err c =
    let h = c.args.work.now.standing in
    let may = c.requires.stands in
    let s = state_of h in
    let who = c.args.who.now in
    let i = c.args.net in
    let t = c.args.task in
    let value = c.args.value in
    let next = c.next-next.result in
    let roles = c.args.asked.now.roles.now in
    let w = c.args.asked.now.here in
    let found =
    subst (λ (f : Forest). AddFinds f roles w next i t value (Err c.in-Err.refusal)) c.forest-forest.ensures
    (subst (AddFinds c.forest-forest.result.now roles w next i t value) c.in-Err.is c.in_ok-found.ensures) in
    let made = found h.known who c.requires.roles c.requires.says in
    behind h (commands.Add who i t value) i (add_front s who i) (add_rest s who i t value) (add_joins reader s who i t value) c.requires.front
    c.args.quiet c.requires.rest c.breaks_quiet.result c.breaks_quiet.ensures c.in_default.is
    (Some c.in-Err.refusal) (made s may.held (next_of h next c.next-next.ensures))
