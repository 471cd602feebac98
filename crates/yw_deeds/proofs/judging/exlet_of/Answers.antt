use Rattle.std.proofs.Common.{ap, sym, ◌∙◌}
use Rattle.std.specs.Option.{option_map_or}
use Rattle.std.specs.Prelude.{[]}
use Rattle.yw_deeds.proofs.judging.exlet_of.Goals as goal
use Rattle.yw_state.specs.After.{primitives_of}

pub returns : goal.returns
returns c = c.primitives_of.ensures ∙ sym (ap (λ o. option_map_or primitives_of o []) c.conclusion.ensures)
