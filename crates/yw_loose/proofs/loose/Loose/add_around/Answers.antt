use Rattle.std.proofs.Common.{subst}
use Rattle.yw_loose.proofs.Moving.{one_more, then}
use Rattle.yw_loose.proofs.loose.Loose.add_around.Goals as goal
use Rattle.yw_loose.specs.Loose.{Gains}
use Rattle.yw_state.specs.Identity.{Ident, same}
use Rattle.yw_base.specs.Identity.{parent}
use Rattle.yw_tree.proofs.OnResults.{on_ok}

pub returns : goal.returns
returns c =
    let at = c.args.at.now in
    let here : Gains c.args.self.now c.add.new.self at =
    subst (λ (i : Ident). Gains c.args.self.now c.add.new.self i) c.in_ok-copy.ensures c.in_ok-add.ensures.ok in
    on_ok c.add_found.result _ _ c.add_found.ensures
    (λ above. then c.args.self.now c.add.new.self c.add_found.new.self (λ j. same j at) (λ j. same j (parent at))
    (one_more c.args.self.now c.add.new.self at here) (above (parent at) c.in_ok-parent.ensures))
