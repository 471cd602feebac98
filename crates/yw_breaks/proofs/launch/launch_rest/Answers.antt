use Rattle.std.proofs.Common.{Option, subst, sym, ◌≡◌}
use Rattle.yw_breaks.proofs.Launches.{launches_known}
use Rattle.yw_breaks.proofs.launch.launch_rest.Goals as goal
use Rattle.yw_breaks.specs.Finds.{BreaksNext}
use Rattle.yw_breaks.specs.Launch.{launch_fault}
use Rattle.yw_texts.specs.Texts.{reader}
use Rattle.yw_nest.proofs.Results.{if_ok}
use Rattle.yw_state.specs.Broken.{Breaks}
use Rattle.yw_state.specs.declared.command.Command.TheVariants as commands
use Rattle.yw_state.specs.declared.rule.Refusal.{Refusal}

pub returns : goal.returns
returns c = λ known name says.
    let gs = c.args.given.now in
    let spec = c.args.spec.now in
    let next = c.args.next in
    if_ok c.launch_fault.result (λ found. found ≡ launch_fault spec next gs) (BreaksNext known next (commands.Launch name gs)) c.launch_fault.ensures
    (λ found e. λ f s h drawn.
    subst (λ (o : Option Refusal). Breaks reader s (commands.Launch name gs) o) (sym e)
    (launches_known reader known f s h name gs next drawn spec says.number says.kept))
