use Rattle.std.proofs.Common.{ap, subst, sym, ◌∙◌}
use Rattle.yw_trees.proofs.Right.{right_begun, same_right}
use Rattle.yw_trees.proofs.Texts.{cut_back}
use Rattle.yw_trees.proofs.trees.Trees.begin.Goals as goal
use Rattle.yw_trees.specs.Grown.{AreRight, rule_of}
use Rattle.yw_trees.specs.Placed.{number_for}
use Rattle.yw_trees.specs.Slots.{IsPut}

pub invariant_of-self-in-Ok : goal.invariant_of-self-in-Ok
invariant_of-self-in-Ok c =
    let kind = c.args.place.now.kind in
    let free = ap (number_for c.args.owner kind) c.self.view_is ∙ c.requires.new in
    subst (λ xs. AreRight xs c.put.new.self) (sym c.in_ok-push.ensures.ok)
    (right_begun c.self.inside.grown c.self.inside.slots c.put.new.self c.self.invariant c.args.owner c.args.place.now (rule_of c.args.rule) free
    c.in_ok-tree.tree c.in_ok-tree.ensures
    (subst (IsPut c.self.inside.slots c.put.new.self c.args.owner kind) c.len-number.ensures c.in-Ok.ensures.ok))

pub invariant_of-self-in-Err : goal.invariant_of-self-in-Err
invariant_of-self-in-Err c =
    let cut = cut_back c.self.inside.grown c.push.new.self c.cut_to.new.items c.in_ok-tree.tree c.len-number.result c.len-number.ensures
    c.in_ok-push.ensures.ok c.cut_to.ensures in
    subst (λ xs. AreRight xs c.put.new.self) (sym cut) (same_right c.self.inside.grown c.self.inside.slots c.put.new.self c.self.invariant c.in-Err.ensures.err)
