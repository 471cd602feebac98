use Rattle.std.proofs.Common.{Some, refl, subst, sym}
use Rattle.yw_breaks.specs.Finds.{BreaksNext}
use Rattle.yw_engine.proofs.Commands.{launch_breaks}
use Rattle.yw_engine.proofs.launch.launch_made.Goals as goal
use Rattle.yw_engine.specs.Decides.{BreaksNow}
use Rattle.yw_library.specs.Holdings.{Holdings, IsKept}
use Rattle.yw_state.specs.Broken.{placeless}
use Rattle.yw_state.specs.declared.command.Command.TheVariants as commands
use Rattle.yw_state.specs.declared.rule.Refusal.{Refusal}

pub launch_here-requires-clause-kept : goal.launch_here-requires-clause-kept
launch_here-requires-clause-kept c =
    subst (λ (k : Holdings). IsKept k c.args.spec.now c.in-Ok.asked.spec.now c.in-Ok.asked.number) c.known.ensures c.in-Ok.ensures

pub returns-in-Err : goal.returns-in-Err
returns-in-Err c =
    let h = c.args.work.now.standing in
    let name = c.args.spec.now in
    let gs = c.args.given.now in
    let breaks = subst (λ (k : Holdings). BreaksNext k h.next (commands.Launch name gs) (Some (placeless c.in-Err.rule))) c.known.ensures
    (c.in-Err.ensures h.next gs) in
    subst (λ (x : Refusal). BreaksNow h (commands.Launch name gs) (Some x)) (sym c.placeless.ensures)
    (launch_breaks h c.requires name gs h.next refl (Some (placeless c.in-Err.rule)) breaks)
