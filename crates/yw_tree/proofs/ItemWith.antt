-- An item and the net in which it stands are found by one way down.
use Rattle.std.proofs.Common.{List, None, Some, [], ap, arith, false, length, refl, subst, sym, true, ℕ, ◌∙◌, ◌∷◌, ◌≡◌, ◌≤◌}
use Rattle.std.proofs.lemmas.Bool.{false_from_ne_true}
use Rattle.std.specs.Prelude.{option_and_then}
use Rattle.yw_sites.proofs.Prefix.{child_length, under_refl, under_same}
use Rattle.yw_state.proofs.Tests.{by_option, never, nowhere, then_some}
use Rattle.yw_state.specs.Identity.{Ident, is_case_ident}
use Rattle.yw_base.specs.Identity.{parent}
use Rattle.yw_state.specs.State.{Site}
use Rattle.yw_tree.proofs.FindLaw.{case_shown, item_shown}
use Rattle.yw_tree.proofs.ItemThere.{item_there, its_child}
use Rattle.yw_tree.proofs.NetAt.{net_here}
use Rattle.yw_tree.proofs.Parents.{parent_child, parent_length, parent_there}
use Rattle.yw_tree.proofs.Split.{place_leads}
use Rattle.yw_tree.proofs.Stood.{net_above, place_there_too}
use Rattle.yw_tree.specs.Cases.{case_at}
use Rattle.yw_tree.specs.Forest.{IsForest, item_of, item_of_case}
use Rattle.yw_tree.specs.Places.{net_at}
use Rattle.yw_tree.specs.Ways.{node_at, place_of}
use Rattle.yw_tree.specs.declared.Forest.{Forest}
use Rattle.yw_tree.specs.declared.NetState.{NetState}
use Rattle.yw_tree.specs.declared.Node.{Node, out-Node}

-- an item isn't a case
pub no_case : (f : Forest) → IsForest f → (j : Ident) → (n : Node) → item_of f j ≡ Some n → is_case_ident j ≡ false
no_case f b [] n found = refl
no_case f b (k ∷ ks) n found = false_from_ne_true _ (λ t.
    let names : ℕ → List ℕ = λ i. [] in
    let j : Ident = k ∷ ks in
    let long : 1 ≤ length j = omega arith in
    let c = then_some (item_of_case j) (case_at k f.cases) n found in
    let top = case_shown names f b j long t c.0 c.1 in
    let own = item_shown names f b j long n found in
    nowhere (ap (option_and_then (λ (x : Site). x.item)) (sym top ∙ own)))

module _ (f : Forest) (b : IsForest f) (id : Ident) (long : 1 ≤ length id) where
  abbrev names : ℕ → List ℕ
  names k = []

  pub none_at_case : is_case_ident id ≡ true → item_of f id ≡ None
  none_at_case t = by_option (item_of f id) (λ none. none) (λ n some. never (sym (no_case f b id n some) ∙ t))

  module _ (below : is_case_ident id ≡ false) where
    pub none_without_net : length id ≤ 41 → net_at f (parent id) ≡ None → item_of f id ≡ None
    none_without_net fits e = by_option (item_of f id) (λ none. none) (λ n some. absurd (net_above f b id long names below n some fits e))

    module _ (s : NetState) (stands : net_at f (parent id) ≡ Some s) where
      pub none_without_place : place_of id s ≡ None → item_of f id ≡ None
      none_without_place e =
          let h = net_here f (parent id) s b (parent_there id long below) stands in
          by_option (item_of f id) (λ none. none) (λ n some. absurd (place_there_too f b id long names below n some s h e))

      -- the item at the place that leads to it
      pub item_at_its_place : length id ≤ 41 → (p : ℕ × ℕ) → place_of id s ≡ Some p → (n : Node) → node_at s p.0 p.1 ≡ Some n → item_of f id ≡ Some n
      item_at_its_place fits p e n at =
          let i = parent id in
          let above = parent_there id long below in
          let l = parent_length id in
          let short : length i ≤ 40 = omega arith in
          let child = its_child f b i above short s stands p.0 p.1 n at in
          let same_length : length id ≡ length (out-Node n).id = child_length i id (parent_child id long) ∙ sym (child_length i (out-Node n).id child) in
          let it : id ≡ (out-Node n).id = under_same id id (out-Node n).id same_length (under_refl id) (place_leads id s p n e at) in
          subst (λ k. item_of f k ≡ Some n) (sym it) (item_there f b i above short s stands p.0 p.1 n at)
