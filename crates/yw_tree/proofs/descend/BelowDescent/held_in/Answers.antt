use Rattle.std.proofs.Common.{◌≡◌, ℕ, Some, refl, sym, subst, ◌∙◌}
use Rattle.std.specs.Prelude.{IsSome}
use Rattle.yw_tree.specs.Ways.{place_of}
use Rattle.yw_tree.proofs.Split.{place_there}
use Rattle.yw_tree.proofs.descend.BelowDescent.held_in.Goals as goal

pub node_here-node-requires : goal.node_here-node-requires
node_here-node-requires g c =
    let p : ℕ × ℕ = (c.in-Some.t, c.in-Some.i) in
    let e : place_of c.args.id.now c.args.net.now ≡ Some p = sym c.place.ensures ∙ c.in-Some.is in
    let n = place_there c.args.id.now c.args.net.now p e in
    subst (λ o. IsSome o) (sym n.1) refl
