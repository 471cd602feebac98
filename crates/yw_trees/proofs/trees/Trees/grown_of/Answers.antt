use Rattle.std.proofs.Common.{ap, subst, sym, ◌∙◌}
use Rattle.std.specs.Option.{option_copied}
use Rattle.yw_trees.proofs.Right.{found_rules, no_rules}
use Rattle.yw_trees.proofs.trees.Trees.grown_of.Goals as goal
use Rattle.yw_trees.specs.Grown.{HasRules}
use Rattle.yw_trees.specs.Placed.{rules_for}

pub returns-in-Some : goal.returns-in-Some
returns-in-Some c =
    subst (λ ts. HasRules ts c.args.owner c.args.kind (option_copied c.get-in-Some.result)) c.self.view_is
    (found_rules c.self.inside.grown c.self.inside.slots c.self.invariant c.args.owner c.args.kind c.in-Some.number (option_copied c.get-in-Some.result)
    (sym c.get.ensures ∙ c.in-Some.is) c.get-in-Some.ensures)

pub returns-in-None : goal.returns-in-None
returns-in-None c =
    ap (rules_for c.args.owner c.args.kind) (sym c.self.view_is)
    ∙ no_rules c.self.inside.grown c.self.inside.slots c.self.invariant c.args.owner c.args.kind (sym c.get.ensures ∙ c.in-None.is)
