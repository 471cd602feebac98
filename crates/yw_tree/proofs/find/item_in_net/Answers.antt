use Rattle.std.proofs.Common.{None, Some, ap, false, refl, subst, sym, ℕ, ◌∙◌, ◌≡◌}
use Rattle.std.specs.Prelude.{IsSome}
use Rattle.yw_state.specs.Identity.{is_case_ident}
use Rattle.yw_base.specs.Identity.{parent}
use Rattle.yw_tree.proofs.ItemWith.{item_at_its_place, none_at_case, none_without_net, none_without_place}
use Rattle.yw_tree.proofs.Parents.{parent_there}
use Rattle.yw_tree.proofs.Split.{place_there}
use Rattle.yw_tree.proofs.find.item_in_net.Goals as goal
use Rattle.yw_tree.specs.Places.{net_at}
use Rattle.yw_tree.specs.Ways.{place_of}

pub returns-then-is_case : goal.returns-then-is_case
returns-then-is_case c = λ b fits. none_at_case c.args.forest.now b c.args.id.now c.requires (sym c.is_case.ensures ∙ c.if-is_case.true)

pub net_with-requires : goal.net_with-requires
net_with-requires c = rw c.parent.ensures (parent_there c.args.id.now c.requires (sym c.is_case.ensures ∙ c.if-is_case.false))

pub returns-in_err-net : goal.returns-in_err-net
returns-in_err-net c = λ b fits.
    let f = c.args.forest.now in
    let id = c.args.id.now in
    let below : is_case_ident id ≡ false = sym c.is_case.ensures ∙ c.if-is_case.false in
    let e : net_at f (parent id) ≡ None = ap (net_at f) (sym c.parent.ensures) ∙ sym c.in_err-net.ensures in
    rw c.from_residual.ensures (none_without_net f b id c.requires below fits e)

pub returns-in_err-t : goal.returns-in_err-t
returns-in_err-t c = λ b fits.
    let f = c.args.forest.now in
    let id = c.args.id.now in
    let below : is_case_ident id ≡ false = sym c.is_case.ensures ∙ c.if-is_case.false in
    let e : net_at f (parent id) ≡ Some c.in_ok-net.net.now = ap (net_at f) (sym c.parent.ensures) ∙ sym c.in_ok-net.ensures in
    rw c.from_residual-in_err-t.ensures (none_without_place f b id c.requires below c.in_ok-net.net.now e (sym c.in_err-t.ensures))

pub node_here-node-requires : goal.node_here-node-requires
node_here-node-requires c =
    let p : ℕ × ℕ = (c.in_ok-t.t, c.in_ok-t.i) in
    let e : place_of c.args.id.now c.in_ok-net.net.now ≡ Some p = sym c.in_ok-t.ensures in
    subst (λ o. IsSome o) (sym (place_there c.args.id.now c.in_ok-net.net.now p e).1) refl

pub returns : goal.returns
returns c = λ b fits.
    let f = c.args.forest.now in
    let id = c.args.id.now in
    let s = c.in_ok-net.net.now in
    let p : ℕ × ℕ = (c.in_ok-t.t, c.in_ok-t.i) in
    let below : is_case_ident id ≡ false = sym c.is_case.ensures ∙ c.if-is_case.false in
    let e : net_at f (parent id) ≡ Some s = ap (net_at f) (sym c.parent.ensures) ∙ sym c.in_ok-net.ensures in
    let placed : place_of id s ≡ Some p = sym c.in_ok-t.ensures in
    (item_at_its_place f b id c.requires below s e fits p placed c.node_here-node.result.now c.node_here-node.ensures, e)
