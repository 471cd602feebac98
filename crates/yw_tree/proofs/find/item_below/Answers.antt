use Rattle.std.proofs.Common.{ap, ◌∙◌}
use Rattle.yw_tree.specs.Ways.{item_in}
use Rattle.yw_tree.proofs.Steps.{levels_are}
use Rattle.yw_tree.proofs.find.item_below.Goals as goal

pub returns : goal.returns
returns c = c.item_of.ensures ∙ ap (λ d. item_in d c.args.id.now c.args.net.now) levels_are
