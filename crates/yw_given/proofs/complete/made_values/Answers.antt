use Rattle.std.proofs.Common.{◌∙◌, ap, sym}
use Rattle.yw_given.proofs.Making.{made_where_fit}
use Rattle.yw_given.proofs.complete.made_values.Goals as goal
use Rattle.yw_state.specs.Given.{misfit}

pub unreachable-requires : goal.unreachable-requires
unreachable-requires c =
    made_where_fit c.as_slice.result.now c.as_slice-2.result.now
    (ap (λ ps. misfit ps c.as_slice-2.result.now) c.as_slice.ensures ∙ ap (misfit c.args.params.now) c.as_slice-2.ensures ∙ c.requires)
    (sym c.in_ok-row.ensures ∙ c.in-None.is)
