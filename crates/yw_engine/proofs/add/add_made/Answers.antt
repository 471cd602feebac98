use Rattle.std.proofs.Common.{Some, subst, sym}
use Rattle.yw_breaks.proofs.Whole.{add_joins}
use Rattle.yw_breaks.specs.Persons.{HasRoles}
use Rattle.yw_breaks.specs.Tables.{add_front, add_rest}
use Rattle.yw_engine.proofs.Fronts.{in_front}
use Rattle.yw_engine.proofs.Parts.{held_by, says_net}
use Rattle.yw_engine.proofs.add.add_made.Goals as goal
use Rattle.yw_engine.specs.Decides.{BreaksNow}
use Rattle.yw_library.specs.Holdings.{Holdings}
use Rattle.yw_standing.specs.State.{state_of}
use Rattle.yw_texts.specs.Texts.{reader}
use Rattle.yw_state.specs.declared.command.Command.TheVariants as commands
use Rattle.yw_state.specs.declared.rule.Refusal.{Refusal}

pub add_here-requires-clause-roles : goal.add_here-requires-clause-roles
add_here-requires-clause-roles c =
    subst (λ (k : Holdings). HasRoles k c.args.who.now c.in-Ok.asked.roles.now) c.known.ensures c.in-Ok.ensures.finds.roles

pub add_here-requires-clause-says : goal.add_here-requires-clause-says
add_here-requires-clause-says c =
    says_net c.args.work.now.standing c.known.result.now c.forest.result.now c.known.ensures c.forest.ensures c.args.net c.in-Ok.asked.here c.in-Ok.ensures.finds.says

pub add_here-requires-clause-rest : goal.add_here-requires-clause-rest
add_here-requires-clause-rest c =
    c.requires.rest c.in-Ok.asked.roles.now
    (subst (λ (k : Holdings). HasRoles k c.args.who.now c.in-Ok.asked.roles.now) c.known.ensures c.in-Ok.ensures.finds.roles)

pub add_here-requires-clause-front : goal.add_here-requires-clause-front
add_here-requires-clause-front c =
    let h = c.args.work.now.standing in
    c.in-Ok.ensures.finds.unbroken (state_of h) (held_by h c.known.result.now c.forest.result.now c.known.ensures c.forest.ensures c.requires.stands)

pub returns-in-Err : goal.returns-in-Err
returns-in-Err c =
    let h = c.args.work.now.standing in
    let s = state_of h in
    let who = c.args.who.now in
    let i = c.args.net in
    let t = c.args.task in
    let value = c.args.value in
    let held = held_by h c.known.result.now c.forest.result.now c.known.ensures c.forest.ensures c.requires.stands in
    subst (λ (x : Refusal). BreaksNow h (commands.Add who i t value) (Some x)) (sym c.placeless.ensures)
    (in_front h (commands.Add who i t value) i (add_front s who i) (add_rest s who i t value) (add_joins reader s who i t value) c.in-Err.rule
    (c.in-Err.ensures.finds s held))
