use Rattle.std.proofs.Common.{subst, sym, ◌∙◌}
use Rattle.yw_state.specs.Identity.{Ident, same}
use Rattle.yw_tree.proofs.OnResults.{on_ok}
use Rattle.yw_worklist.proofs.Reaching.{gone_added, none_gone}
use Rattle.yw_worklist.proofs.touched.add_gone.Goals as goal
use Rattle.yw_worklist.specs.Touched.{Adds}

pub returns-then-not-is_gone : goal.returns-then-not-is_gone
returns-then-not-is_gone c = none_gone c.args.forest.now c.args.ids.now c.args.at.now (sym c.is_gone.ensures ∙ c.if-not-is_gone.true)

pub returns : goal.returns
returns c =
    on_ok c.add.result _ _ c.add.ensures
    (λ adds. gone_added c.args.forest.now c.args.ids.now c.add.new.ids c.args.at.now
    (subst (λ (i : Ident). Adds c.args.ids.now c.add.new.ids (λ j. same j i)) c.in_ok-copy.ensures adds))
