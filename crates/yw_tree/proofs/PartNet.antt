-- A part of a forest whose net is another: what the forest then means.
use Rattle.std.proofs.Common.{◌≡◌, ℕ, false, Some, List, ◌∷◌, ◌++◌, ap, sym, ◌∙◌}
use Rattle.std.specs.Prelude.{option_and_then, option_map}
use Rattle.std.specs.FinMap.Entries.{find}
use Rattle.yw_base.specs.Identity.{under}
use Rattle.yw_sites.specs.Entries.{AllUnder, Entries, Swaps}
use Rattle.yw_state.specs.After.{with_net as with_part}
use Rattle.yw_state.specs.Identity.{Ident}
use Rattle.yw_state.specs.Map.{get, lexical}
use Rattle.yw_state.specs.State.{Site, Sites, sites_of_entries}
use Rattle.yw_sites.proofs.Parts.{below_was, is_new, own_was}
use Rattle.yw_tree.specs.Entries.{net_entries, net_part}
use Rattle.yw_tree.specs.Shows.{ShowsNet}
use Rattle.yw_tree.specs.declared.NetState.{NetState}

module _ (id : Ident) (x y : Site) (xs ys es fs : Entries) (s : Swaps id ((id, x) ∷ xs) ((id, y) ∷ ys) es fs) (x_under : AllUnder id xs) (y_under : AllUnder id ys) where
  module _ (names : ℕ → List ℕ) (beside : Entries) (o n : NetState) (below_old : xs ≡ (net_entries names o).1 ++ beside) (below_new : ys ≡ (net_entries names n).1 ++ beside)
      (net_old : x.net ≡ Some (net_part names o)) (net_new : y ≡ record x { net = Some (net_part names n) }) where
    pub net_shown : ShowsNet names (sites_of_entries es) id beside o
    net_shown = record { part = ap (option_and_then (λ (z : Site). z.net)) (own_was id x y xs ys es fs s x_under y_under) ∙ net_old; below = λ q h. below_was id x y xs ys es fs s x_under y_under q h ∙ ap (find lexical q) below_old }

    -- a map that shows the new net, has else at the identity what was there, and elsewhere what was, is the new one
    pub net_changes : (m : Sites) → ShowsNet names m id beside n → get m id ≡ option_map (with_part (λ _. net_part names n)) (get (sites_of_entries es) id)
        → ((q : Ident) → under q id ≡ false → get m q ≡ get (sites_of_entries es) q) → sites_of_entries fs ≡ m
    net_changes m shows own outside =
        is_new id x y xs ys es fs s x_under y_under m
        (own ∙ ap (option_map (with_part (λ _. net_part names n))) (own_was id x y xs ys es fs s x_under y_under) ∙ ap (λ z. Some z) (λ j. record x { net = option_map (λ _. net_part names n) (net_old j) }) ∙ ap (λ z. Some z) (sym net_new))
        (λ q h. shows.below q h ∙ ap (find lexical q) (sym below_new))
        outside
