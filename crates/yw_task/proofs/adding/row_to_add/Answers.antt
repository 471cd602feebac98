use Rattle.std.proofs.Common.{Option, ap, sym, ◌∙◌}
use Rattle.std.specs.Prelude.{is_some}
use Rattle.yw_state.specs.Values.{Row}
use Rattle.yw_task.proofs.AddTable.{is_given}
use Rattle.yw_task.proofs.adding.row_to_add.Goals as goal

pub element_row-requires : goal.element_row-requires
element_row-requires c =
    ap (λ (o : Option Row). is_some o) (is_given c.args.task.now c.args.vals.now c.in-Some.element (sym c.in_ok-at.ensures ∙ c.in_default-2.is)).1
