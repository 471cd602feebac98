use Rattle.std.proofs.Common.{List, subst, sym, ℕ}
use Rattle.yw_breaks.proofs.Asking.{has_top, launch_asks}
use Rattle.yw_breaks.proofs.events.launch_event.Goals as goal
use Rattle.yw_texts.specs.Texts.{reader}
use Rattle.yw_state.specs.Legal.{IsAsked}
use Rattle.yw_state.specs.Values.{Row}
use Rattle.yw_state.specs.declared.command.Command.TheVariants as commands
use Rattle.yw_state.specs.declared.event.Event.TheVariants as events

pub unreachable-requires : goal.unreachable-requires
unreachable-requires c = has_top c.args.found.now c.requires (sym c.in_default.ensures)

pub returns : goal.returns
returns c = λ known says f s h drawn.
    let name = c.args.name.now in
    let gs = c.args.given.now in
    let next = c.args.next in
    subst (λ (n : List ℕ). IsAsked reader s (commands.Launch name gs) (events.Launch next n c.in_ok-values.values)) (sym c.in_ok-spec.ensures)
    (subst (λ (v : Row). IsAsked reader s (commands.Launch name gs) (events.Launch next name v)) (sym c.in_ok-values.ensures)
    (launch_asks known f s h name c.args.found.now says.number says.kept c.in-Some.net.now (sym c.in-Some.ensures) next drawn gs))
