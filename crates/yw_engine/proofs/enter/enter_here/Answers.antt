use Rattle.std.proofs.Common.{None, Some, subst}
use Rattle.yw_asked.proofs.Unbroken.{none_broken}
use Rattle.yw_breaks.proofs.Whole.{enter_joins}
use Rattle.yw_breaks.specs.Enter.{EnterFinds, EnterMakes, IsEntryAsked}
use Rattle.yw_breaks.specs.Tables.{enter_front, enter_rest}
use Rattle.yw_cases.proofs.Trying.{words_of}
use Rattle.yw_engine.proofs.Entries.{entered, gives_rows}
use Rattle.yw_engine.proofs.Fronts.{behind, moving}
use Rattle.yw_engine.proofs.Parts.{next_of}
use Rattle.yw_engine.proofs.enter.enter_here.Goals as goal
use Rattle.yw_standing.specs.State.{state_of}
use Rattle.yw_texts.specs.Texts.{reader}
use Rattle.yw_state.specs.declared.command.Command.TheVariants as commands
use Rattle.yw_tree.specs.declared.Forest.{Forest}

pub returns-in-Some : goal.returns-in-Some
returns-in-Some c =
    let h = c.args.work.now.standing in
    let s = state_of h in
    let who = c.args.who.now in
    let i = c.args.at.now in
    let t = c.args.task.now in
    moving h (commands.Enter who i t) i (enter_front s who i t) (enter_rest s who i t) (enter_joins reader s who i t) c.requires.front
    c.args.quiet c.requires.rest c.breaks_quiet.result c.breaks_quiet.ensures c.in-Some.refusal c.in-Some.is

pub entry_of-requires-clause-task : goal.entry_of-requires-clause-task
entry_of-requires-clause-task c =
    let made =
    subst (EnterMakes c.forest-forest.result.now c.args.asked.now.roles.now c.args.asked.now.here c.next-next.result c.args.at.now c.args.task.now)
    c.in-Ok.is c.in_ok-entry.ensures in
    made.named.below

pub entry_of-requires-clause-gives : goal.entry_of-requires-clause-gives
entry_of-requires-clause-gives c =
    let h = c.args.work.now.standing in
    let may = c.requires.stands in
    let w = c.args.asked.now.here in
    let next = c.next-next.result in
    let entry = c.in-Ok.entry in
    let made =
    subst (EnterMakes c.forest-forest.result.now c.args.asked.now.roles.now w next c.args.at.now c.args.task.now) c.in-Ok.is c.in_ok-entry.ensures in
    gives_rows h may c.args.at.now c.args.task.now w (c.requires.says (state_of h) may.held) entry.task made.named next c.next-next.ensures
    entry.taken entry.rows.items made.enterable

pub returns-in_ok-entry_of-in-Ok : goal.returns-in_ok-entry_of-in-Ok
returns-in_ok-entry_of-in-Ok c =
    let h = c.args.work.now.standing in
    let may = c.requires.stands in
    let s = state_of h in
    let who = c.args.who.now in
    let i = c.args.at.now in
    let t = c.args.task.now in
    let w = c.args.asked.now.here in
    let next = c.next-next.result in
    let roles = c.args.asked.now.roles.now in
    let made =
    subst (λ (f : Forest). IsEntryAsked f roles w next i t c.in-Ok.entry) c.forest-forest.ensures
    (subst (EnterMakes c.forest-forest.result.now roles w next i t) c.in-Ok.is c.in_ok-entry.ensures) in
    let unbroken = made.unbroken h.known who c.requires.roles c.requires.says s may.held (words_of h may).manual (next_of h next c.next-next.ensures) in (
      behind h (commands.Enter who i t) i (enter_front s who i t) (enter_rest s who i t) (enter_joins reader s who i t) c.requires.front
          c.args.quiet c.requires.rest c.breaks_quiet.result c.breaks_quiet.ensures c.in_default.is
          None unbroken,
      entered h may i t w (c.requires.says s may.held) c.in-Ok.entry.task made.named next c.next-next.ensures c.in-Ok.entry.taken c.in-Ok.entry.rows.items made.enterable
          (none_broken (enter_rest s who i t) unbroken).1.1.1.0 c.in_ok-entry_of-in-Ok.field-0 c.in_ok-entry_of-in-Ok.ensures,
    )

pub returns-in-Err : goal.returns-in-Err
returns-in-Err c =
    let h = c.args.work.now.standing in
    let may = c.requires.stands in
    let s = state_of h in
    let who = c.args.who.now in
    let i = c.args.at.now in
    let t = c.args.task.now in
    let next = c.next-next.result in
    let roles = c.args.asked.now.roles.now in
    let w = c.args.asked.now.here in
    let finds =
    subst (λ (f : Forest). EnterFinds f roles w next i t (Some c.in-Err.refusal)) c.forest-forest.ensures
    (subst (EnterMakes c.forest-forest.result.now roles w next i t) c.in-Err.is c.in_ok-entry.ensures) in
    behind h (commands.Enter who i t) i (enter_front s who i t) (enter_rest s who i t) (enter_joins reader s who i t) c.requires.front
    c.args.quiet c.requires.rest c.breaks_quiet.result c.breaks_quiet.ensures c.in_default.is
    (Some c.in-Err.refusal)
    (finds h.known who c.requires.roles c.requires.says s may.held (words_of h may).manual (next_of h next c.next-next.ensures))
