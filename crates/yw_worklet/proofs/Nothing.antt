-- Nothing stands below a net without items, and an item stays where all below it goes.
use Rattle.std.proofs.Common.{Bool, List, [], ap, false, refl, true, ℕ, ◌∙◌, ◌≡◌}
use Rattle.std.specs.Prelude.{not, option_map, ◌&&◌}
use Rattle.yw_base.specs.Identity.{under}
use Rattle.yw_sites.proofs.Prefix.{same_refl}
use Rattle.yw_state.proofs.MapLemmas.{by_name, get-retain_kept, get-update_same}
use Rattle.yw_state.specs.Identity.{Ident, strictly_under}
use Rattle.yw_state.specs.Map.{get, retain}
use Rattle.yw_state.specs.State.{Sites, bare, without_net}
use Rattle.yw_tree.proofs.Equations.{net_entries_is}
use Rattle.yw_tree.proofs.Keys.{ids_are, kids}
use Rattle.yw_tree.specs.Boxed.{ids}
use Rattle.yw_tree.specs.Entries.{flat, net_entries, node_entries, nodes}
use Rattle.yw_tree.specs.declared.NetState.{NetState}

pub no_ids : (s : NetState) → nodes s ≡ [] → ids s ≡ []
no_ids s e = ids_are s ∙ ap kids e

pub none_below : (names : ℕ → List ℕ) (s : NetState) → nodes s ≡ [] → (net_entries names s).1 ≡ []
none_below names s e = ap (λ z. z.1) (net_entries_is names s) ∙ ap (flat (node_entries names)) e

and_not : (a : Bool) → (a && false) ≡ false
and_not true = refl
and_not false = refl

pub get-bare_same : (m : Sites) (j : Ident) → get (bare m j) j ≡ option_map without_net (get m j)
get-bare_same m j =
    let kept : not (strictly_under j j) ≡ true = ap (λ b. not (under j j && not b)) (same_refl j) ∙ ap not (and_not (under j j)) in
    get-update_same by_name (retain m (λ k. not (strictly_under k j))) j without_net ∙ ap (option_map without_net) (get-retain_kept by_name m (λ k. not (strictly_under k j)) j kept)
