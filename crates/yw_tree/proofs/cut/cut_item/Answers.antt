use Rattle.std.proofs.Common.{◌≡◌, ℕ, List, [], ◌∷◌, Some, true, false, subst, sym, ap, ◌∙◌}
use Rattle.yw_sites.proofs.OnTests.{of_false, of_true, on_false, on_true}
use Rattle.yw_sites.proofs.Prefix.{child_length}
use Rattle.yw_base.specs.Identity.{parent}
use Rattle.yw_state.specs.State.{drop}
use Rattle.yw_state.proofs.Tests.{by_test}
use Rattle.yw_tree.specs.Forest.{IsForest, sites_of}
use Rattle.yw_tree.specs.Places.{net_at, placed_net}
use Rattle.yw_tree.proofs.NetAt.{net_here}
use Rattle.yw_tree.proofs.NetBack.{net_back}
use Rattle.yw_tree.proofs.NetHere.{cut_here, net_at_here}
use Rattle.yw_tree.proofs.Parents.{parent_child, parent_there}
use Rattle.yw_tree.proofs.cut.cut_item.Goals as goal

pub net_by-requires : goal.net_by-requires
net_by-requires c = rw c.parent.ensures (parent_there c.args.id.now c.requires.long c.requires.below)

pub remove_item-requires : goal.remove_item-requires
remove_item-requires c =
    let f = c.args.forest.now in
    let i = parent c.args.id.now in
    let s = c.in-Some.net.now in
    let e : net_at f i ≡ Some s = ap (net_at f) (sym c.parent.ensures) ∙ sym (rw c.in-Some.is at c.net_by.ensures.value) in
    record { boxed = (net_here f i s c.requires.boxed (parent_there c.args.id.now c.requires.long c.requires.below) e).boxed }

pub returns-in-Some-clause-sites : goal.returns-in-Some-clause-sites
returns-in-Some-clause-sites c = on_true c.remove_item.result _ (λ t names.
    let f = c.args.forest.now in
    let id = c.args.id.now in
    let i = parent c.args.id.now in
    let s = c.in-Some.net.now in
    let w = c.remove_item.new.net in
    let e : net_at f i ≡ Some s = ap (net_at f) (sym c.parent.ensures) ∙ sym (rw c.in-Some.is at c.net_by.ensures.value) in
    let h = net_here f i s c.requires.boxed (parent_there id c.requires.long c.requires.below) e in
    let child = parent_child id c.requires.long in
    let js : List (List ℕ) = id ∷ [] in
    let net_at = net_at_here f i s (placed_net f i) h w c.remove_item.ensures.boxed c.remove_item.ensures.children in
    let r = cut_here f i s (placed_net f i) h w c.remove_item.ensures.boxed c.remove_item.ensures.children names js (child, tt)
    (λ beside stands shows. of_true c.remove_item.result _ c.remove_item.ensures.shows t names (sites_of names f) i beside (child_length i id child) net_at stands shows) in
    subst (λ z. sites_of names (placed_net f z w) ≡ drop (sites_of names f) id) (sym c.parent.ensures) r.0)

pub returns-in-Some-clause-stays : goal.returns-in-Some-clause-stays
returns-in-Some-clause-stays c = on_false c.remove_item.result _ (λ t.
    let f = c.args.forest.now in
    let i = parent c.args.id.now in
    let s = c.in-Some.net.now in
    let w = c.remove_item.new.net in
    let e : net_at f i ≡ Some s = ap (net_at f) (sym c.parent.ensures) ∙ sym (rw c.in-Some.is at c.net_by.ensures.value) in
    let stays : w ≡ s = of_false c.remove_item.result _ c.remove_item.ensures.stays t in
    (λ j. placed_net f (c.parent.ensures j) (stays j)) ∙ net_back f i s e)

pub returns-in-Some-clause-kept : goal.returns-in-Some-clause-kept
returns-in-Some-clause-kept c =
    let f = c.args.forest.now in
    let id = c.args.id.now in
    let i = parent c.args.id.now in
    let s = c.in-Some.net.now in
    let w = c.remove_item.new.net in
    let names : ℕ → List ℕ = λ k. [] in
    let e : net_at f i ≡ Some s = ap (net_at f) (sym c.parent.ensures) ∙ sym (rw c.in-Some.is at c.net_by.ensures.value) in
    let h = net_here f i s c.requires.boxed (parent_there id c.requires.long c.requires.below) e in
    let child = parent_child id c.requires.long in
    let js : List (List ℕ) = id ∷ [] in
    by_test c.remove_item.result
    (λ (t : c.remove_item.result ≡ true).
    let net_at = net_at_here f i s (placed_net f i) h w c.remove_item.ensures.boxed c.remove_item.ensures.children in
    let r = cut_here f i s (placed_net f i) h w c.remove_item.ensures.boxed c.remove_item.ensures.children names js (child, tt)
    (λ beside stands shows. of_true c.remove_item.result _ c.remove_item.ensures.shows t names (sites_of names f) i beside (child_length i id child) net_at stands shows) in
    subst (λ z. IsForest (placed_net f z w)) (sym c.parent.ensures) r.1)
    (λ (t : c.remove_item.result ≡ false).
    let stays : w ≡ s = of_false c.remove_item.result _ c.remove_item.ensures.stays t in
    let now : placed_net f c.parent.result.now w ≡ f = (λ j. placed_net f (c.parent.ensures j) (stays j)) ∙ net_back f i s e in
    subst IsForest (sym now) c.requires.boxed)
