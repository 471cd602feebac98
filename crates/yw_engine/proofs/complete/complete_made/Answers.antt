use Rattle.std.proofs.Common.{Some, subst, sym}
use Rattle.yw_breaks.proofs.Whole.{complete_joins}
use Rattle.yw_breaks.specs.Persons.{HasRoles}
use Rattle.yw_breaks.specs.Tables.{complete_front, complete_rest}
use Rattle.yw_engine.proofs.Fronts.{in_front}
use Rattle.yw_engine.proofs.Parts.{held_by, says_item}
use Rattle.yw_engine.proofs.complete.complete_made.Goals as goal
use Rattle.yw_engine.specs.Decides.{BreaksNow}
use Rattle.yw_library.specs.Holdings.{Holdings}
use Rattle.yw_standing.specs.State.{state_of}
use Rattle.yw_texts.specs.Texts.{reader}
use Rattle.yw_state.specs.declared.command.Command.TheVariants as commands
use Rattle.yw_state.specs.declared.rule.Refusal.{Refusal}

pub complete_here-requires-clause-says : goal.complete_here-requires-clause-says
complete_here-requires-clause-says c =
    says_item c.args.work.now.standing c.known.result.now c.forest.result.now c.known.ensures c.forest.ensures c.args.item c.in-Ok.asked.here c.in-Ok.ensures.says

pub complete_here-requires-clause-rest : goal.complete_here-requires-clause-rest
complete_here-requires-clause-rest c =
    c.requires.rest c.in-Ok.asked.roles.now
    (subst (λ (k : Holdings). HasRoles k c.args.who.now c.in-Ok.asked.roles.now) c.known.ensures c.in-Ok.ensures.roles)

pub complete_here-requires-clause-front : goal.complete_here-requires-clause-front
complete_here-requires-clause-front c =
    let h = c.args.work.now.standing in
    c.in-Ok.ensures.unbroken (state_of h) (held_by h c.known.result.now c.forest.result.now c.known.ensures c.forest.ensures c.requires.stands)

pub returns-in-Err : goal.returns-in-Err
returns-in-Err c =
    let h = c.args.work.now.standing in
    let s = state_of h in
    let who = c.args.who.now in
    let j = c.args.item in
    let gs = c.args.given.now in
    let held = held_by h c.known.result.now c.forest.result.now c.known.ensures c.forest.ensures c.requires.stands in
    subst (λ (x : Refusal). BreaksNow h (commands.Complete who j gs) (Some x)) (sym c.placeless.ensures)
    (in_front h (commands.Complete who j gs) j (complete_front s who j gs) (complete_rest s who j gs) (complete_joins reader s who j gs) c.in-Err.rule
    (c.in-Err.ensures s held))
