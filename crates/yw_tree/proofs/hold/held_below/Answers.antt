use Rattle.std.proofs.Common.{ap, ◌∙◌}
use Rattle.yw_tree.specs.Holding.{held_in}
use Rattle.yw_tree.proofs.Steps.{levels_are}
use Rattle.yw_tree.proofs.hold.held_below.Goals as goal

pub returns : goal.returns
returns c = c.held_in.ensures ∙ ap (λ d. held_in d c.args.id.now c.args.net.now c.args.above) levels_are
