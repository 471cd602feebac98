-- The new rule finds its side free, and so the links are those of the tree with it.
use Rattle.std.proofs.Common.{◌≡◌, sym, ◌∙◌, ap, arith, length, subst}
use Rattle.std.proofs.lemmas.List.{length-map}
use Rattle.yw_rdr.proofs.Growing.{grows}
use Rattle.yw_rdr.proofs.Taken.{fits}
use Rattle.yw_rdr.specs.Attached.{Takes}
use Rattle.yw_rdr.specs.Links.{IsTree, first_with, kept_of_node}
use Rattle.yw_rdr.proofs.tree.RuleTree.add.Goals as goal

pub invariant_of-self : goal.invariant_of-self
invariant_of-self c =
    let ns = c.self.inside.nodes.items in
    let number : c.len-number.result ≡ length ns = omega (arith, c.len-number.ensures, c.self.inside.nodes.ok.0) in
    subst (λ o. IsTree o c.grow.new.nodes.items) (sym (c.first_with-self-inside.ensures ∙ ap (first_with c.self.inside.first c.args.at c.args.side) number))
    (grows c.self.inside.first ns c.grow.new.nodes.items c.args.at c.args.side c.args.when c.args.conclusion c.in-Ok.ensures.ok
    (fits c.args.at c.args.side c.self.inside.first ns c.self.invariant
    (subst (λ ks. Takes ks c.args.at c.args.side) (sym c.self.view_is) c.requires) (length-map ns kept_of_node)))
