use Rattle.yw_enabled.proofs.ItemSteps.{at_output_as}
use Rattle.yw_enabled.proofs.items.is_at_output.Goals as goal

pub returns-clause-stands : goal.returns-clause-stands
returns-clause-stands c = at_output_as c.args.net.now c.args.state.now c.is_marked.result c.is_marked.ensures
