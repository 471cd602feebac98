use Rattle.std.proofs.Common.{ap, refl, subst, sym, ◌∙◌, ◌++◌, ◌∷◌, []}
use Rattle.yw_rdr.specs.Attached.{Takes}
use Rattle.yw_rdr.specs.Rules.{kept_of}
use Rattle.yw_trees.proofs.Texts.{is_first}
use Rattle.yw_trees.proofs.grown.first_grown.Goals as goal
use Rattle.yw_trees.specs.Grown.{rule_of}

pub add-requires : goal.add-requires
add-requires c = subst (λ ks. Takes ks c.args.rule.at c.args.rule.side) (sym c.new-tree.ensures) c.requires

pub returns : goal.returns
returns c =
    let r = rule_of c.args.rule in
    is_first _ c.args.owner c.args.place.now r refl c.in_ok-place.ensures
    (c.in_ok-push.ensures.ok ∙ ap (λ ts. ts ++ r.when ∷ []) c.new-texts.ensures)
    (c.in_ok-add.ensures.ok.behind ∙ ap (λ ks. ks ++ kept_of r ∷ []) c.new-tree.ensures)
