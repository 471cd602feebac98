use Rattle.std.proofs.Common.{ap, subst, ◌∙◌}
use Rattle.yw_known.proofs.Judging.{tells_tree}
use Rattle.yw_known.proofs.known.Known.has_rule.Goals as goal
use Rattle.yw_library.specs.Holdings.{Holdings}
use Rattle.yw_trees.specs.Placed.{AreOwned}

pub returns : goal.returns
returns c =
    tells_tree c.args.self.now (subst (λ (h : Holdings). AreOwned h.specs h.rules) c.library.ensures c.trees-kept.ensures.owned) _
    (c.trees-kept.ensures.same ∙ ap (λ (h : Holdings). h.rules) c.library.ensures) c.args.owner c.args.kind c.has.result c.has.ensures
