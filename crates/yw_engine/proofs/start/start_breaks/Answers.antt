use Rattle.std.proofs.Common.{Some, subst, sym}
use Rattle.yw_breaks.proofs.Whole.{start_joins}
use Rattle.yw_breaks.specs.Persons.{HasRoles}
use Rattle.yw_breaks.specs.Tables.{start_front, start_rest}
use Rattle.yw_engine.proofs.Fronts.{behind, in_front, moving}
use Rattle.yw_engine.proofs.Parts.{held_by}
use Rattle.yw_engine.proofs.start.start_breaks.Goals as goal
use Rattle.yw_engine.specs.Decides.{BreaksNow}
use Rattle.yw_library.specs.Holdings.{Holdings}
use Rattle.yw_standing.specs.State.{state_of}
use Rattle.yw_texts.specs.Texts.{reader}
use Rattle.yw_state.specs.declared.command.Command.TheVariants as commands
use Rattle.yw_state.specs.declared.rule.Refusal.{Refusal}

pub returns-in-Err : goal.returns-in-Err
returns-in-Err c =
    let h = c.args.work.now.standing in
    let s = state_of h in
    let who = c.args.who.now in
    let j = c.args.item.now in
    let held = held_by h c.known-known.result.now c.forest-forest.result.now c.known-known.ensures c.forest-forest.ensures c.requires.stands in
    subst (λ (x : Refusal). BreaksNow h (commands.Start who j) (Some x)) (sym c.placeless.ensures)
    (in_front h (commands.Start who j) j (start_front s who j) (start_rest s who j) (start_joins reader s who j) c.in-Err.rule (c.in-Err.ensures s held))

pub returns-in-Some : goal.returns-in-Some
returns-in-Some c =
    let h = c.args.work.now.standing in
    let s = state_of h in
    let who = c.args.who.now in
    let j = c.args.item.now in
    let held = held_by h c.known-known.result.now c.forest-forest.result.now c.known-known.ensures c.forest-forest.ensures c.requires.stands in
    let roles = subst (λ (k : Holdings). HasRoles k who c.in-Ok.asked.roles.now) c.known-known.ensures c.in-Ok.ensures.roles in
    moving h (commands.Start who j) j (start_front s who j) (start_rest s who j) (start_joins reader s who j) (c.in-Ok.ensures.unbroken s held)
    c.args.quiet (c.requires.rest c.in-Ok.asked.roles.now roles) c.breaks_quiet.result c.breaks_quiet.ensures c.in-Some.refusal c.in-Some.is

pub returns-in-None : goal.returns-in-None
returns-in-None c =
    let h = c.args.work.now.standing in
    let s = state_of h in
    let who = c.args.who.now in
    let j = c.args.item.now in
    let f = c.forest-forest.result.now in
    let held = held_by h c.known-known.result.now f c.known-known.ensures c.forest-forest.ensures c.requires.stands in
    let roles = subst (λ (k : Holdings). HasRoles k who c.in-Ok.asked.roles.now) c.known-known.ensures c.in-Ok.ensures.roles in
    behind h (commands.Start who j) j (start_front s who j) (start_rest s who j) (start_joins reader s who j) (c.in-Ok.ensures.unbroken s held)
    c.args.quiet (c.requires.rest c.in-Ok.asked.roles.now roles) c.breaks_quiet.result c.breaks_quiet.ensures c.in-None.is
    c.start_rest.result (c.start_rest.ensures c.known-known.result.now who j c.in-Ok.ensures.roles c.in-Ok.ensures.says s held)
