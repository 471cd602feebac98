use Rattle.std.proofs.Common.{Option, Some, ap, sym, ◌∙◌}
use Rattle.std.specs.Prelude.{is_some}
use Rattle.yw_base.specs.declared.value.Value.{Value}
use Rattle.yw_state.proofs.Tests.{never}
use Rattle.yw_state.specs.Passing.{given_values}
use Rattle.yw_state.specs.Values.{Row}
use Rattle.yw_task.proofs.adding.element_row.Goals as goal

pub unreachable-requires : goal.unreachable-requires
unreachable-requires c =
    let task = c.args.task.now in
    let vals = c.args.vals.now in
    never (ap (λ (o : Option Row). is_some o) (sym c.in-None.is ∙ c.in_ok-row.ensures ∙ ap (λ (v : Value). given_values task vals (Some v)) c.lend.ensures) ∙ c.requires)
