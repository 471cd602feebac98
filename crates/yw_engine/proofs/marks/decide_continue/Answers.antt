use Rattle.std.proofs.Common.{Option, refl, subst}
use Rattle.std.specs.Prelude.{option_map}
use Rattle.yw_engine.proofs.Commands.{continue_asks}
use Rattle.yw_engine.proofs.Parts.{held_by}
use Rattle.yw_engine.proofs.marks.decide_continue.Goals as goal
use Rattle.yw_engine.specs.Decides.{BreaksNow}
use Rattle.yw_standing.specs.State.{state_of}
use Rattle.yw_state.specs.Broken.{placeless}
use Rattle.yw_state.specs.declared.command.Command.TheVariants as commands
use Rattle.yw_state.specs.declared.rule.Rule.{Rule}

pub begin-requires-clause-leads : goal.begin-requires-clause-leads
begin-requires-clause-leads c =
    let h = c.args.work.now.standing in
    let j = c.args.at in
    let unbroken = subst (λ (rule : Option Rule). BreaksNow h (commands.Continue j) (option_map placeless rule)) c.in_default.is
    (c.continue_breaks.ensures h.known (state_of h) (held_by h h.known c.forest.result.now refl c.forest.ensures c.requires)) in
    (continue_asks h j unbroken).1

pub returns : goal.returns
returns c =
    let h = c.args.work.now.standing in
    let j = c.args.at in
    let unbroken = subst (λ (rule : Option Rule). BreaksNow h (commands.Continue j) (option_map placeless rule)) c.in_default.is
    (c.continue_breaks.ensures h.known (state_of h) (held_by h h.known c.forest.result.now refl c.forest.ensures c.requires)) in
    c.in_ok-begin.ensures (commands.Continue j) unbroken (continue_asks h j unbroken).0
