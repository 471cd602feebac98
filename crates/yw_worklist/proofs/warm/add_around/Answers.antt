use Rattle.std.proofs.Common.{subst}
use Rattle.yw_base.specs.Identity.{parent}
use Rattle.yw_state.specs.Identity.{Ident, same}
use Rattle.yw_tree.proofs.OnResults.{on_ok}
use Rattle.yw_worklist.proofs.Warming.{then_adds}
use Rattle.yw_worklist.proofs.warm.add_around.Goals as goal
use Rattle.yw_worklist.specs.Touched.{Adds}

pub returns : goal.returns
returns c =
    let at = c.args.at.now in
    let here = subst (λ (i : Ident). Adds c.args.ids.now c.add.new.ids (λ j. same j i)) c.in_ok-copy.ensures c.in_ok-add.ensures in
    on_ok c.add_found.result _ _ c.add_found.ensures
    (λ above. then_adds c.args.ids.now c.add.new.ids c.add_found.new.ids (λ j. same j at) (λ j. same j (parent at)) here (above (parent at) c.in_ok-parent.ensures))
