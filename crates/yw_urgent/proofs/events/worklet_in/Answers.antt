use Rattle.std.proofs.Common.{ap, sym, ◌∙◌}
use Rattle.std.specs.Prelude.{option_and_then}
use Rattle.yw_urgent.proofs.events.worklet_in.Goals as goal
use Rattle.yw_urgent.specs.Urgent.{worklet_named}

pub returns : goal.returns
returns c = c.worklet_named.ensures ∙ sym (ap (option_and_then worklet_named) c.conclusion.ensures)
