-- An item laid bare but for the run at an identity.
use Rattle.std.proofs.Common.{Bool, List, None, Option, Some, ap, cond, false, length, refl, subst, sym, true, ℕ, ◌∙◌, ◌≡◌, ◌≤◌}
use Rattle.std.specs.Prelude.{Box, IsSome, IsSomeAnd, option_and_then}
use Rattle.std.specs.declared.alloc.Global.{Global}
use Rattle.yw_sites.proofs.Prefix.{same_true}
use Rattle.yw_state.proofs.Tests.{by_option, by_test}
use Rattle.yw_state.specs.Identity.{Ident, is_case_ident, same}
use Rattle.yw_base.specs.Identity.{parent}
use Rattle.yw_state.specs.State.{bare_but}
use Rattle.yw_tree.proofs.Bared.{bared_but}
use Rattle.yw_tree.proofs.ForestLaw.{in_case}
use Rattle.yw_tree.proofs.Parents.{parent_there}
use Rattle.yw_tree.proofs.RunFound.{none_at_case, run_at_item}
use Rattle.yw_tree.specs.Coming.{HasNoNet}
use Rattle.yw_tree.specs.Forest.{IsForest, item_of, item_replaced, sites_of}
use Rattle.yw_tree.specs.Places.{run_at, run_of, run_of_item}
use Rattle.yw_tree.specs.declared.Forest.{Forest}
use Rattle.yw_tree.specs.declared.Node.{Node, out-Node}
use Rattle.yw_tree.specs.declared.Run.{Run, out-Run}

module _ (f : Forest) (id : Ident) (alone : IsSomeAnd (run_of f id) HasNoNet) where
  pub not_a_case : is_case_ident id ≡ false
  not_a_case =
      by_test (is_case_ident id)
      (λ (t : is_case_ident id ≡ true). absurd (subst (λ o. IsSomeAnd o HasNoNet) (none_at_case f id t) alone))
      (λ (t : is_case_ident id ≡ false). t)

  module _ (u : is_case_ident (parent id) ≡ false) where
    pub item_there : IsSome (item_of f (parent id))
    item_there =
        by_option (item_of f (parent id))
        (λ (e : item_of f (parent id) ≡ None). absurd (subst (λ o. IsSomeAnd o HasNoNet) (run_at_item f id not_a_case u ∙ ap (option_and_then (run_of_item id)) e) alone))
        (λ (n : Node) (e : item_of f (parent id) ≡ Some n). subst (λ o. IsSome o) (sym e) refl)

    module _ (b : IsForest f) (long : 1 ≤ length id) (old w : Node) (e : item_of f (parent id) ≡ Some old) (is : out-Node w ≡ record (out-Node old) { net = None }) where
      by_hung : (names : ℕ → List ℕ) (o : Option (Box Run Global)) → (out-Node old).run ≡ o → IsSomeAnd (run_at id o) HasNoNet
          → (sites_of names (item_replaced f (parent id) w) ≡ bare_but (sites_of names f) (parent id) id) × IsForest (item_replaced f (parent id) w)
      by_hung names None hung h = absurd h
      by_hung names (Some y) hung h =
          by_test (same (out-Run y.value).id id)
          (λ (t : same (out-Run y.value).id id ≡ true).
          let no_net : (out-Run y.value).net ≡ None = subst (λ (z : Bool). IsSomeAnd (cond z (Some y.value) None) HasNoNet) t h in
          subst (λ z. (sites_of names (item_replaced f (parent id) w) ≡ bare_but (sites_of names f) (parent id) z) × IsForest (item_replaced f (parent id) w)) (same_true (out-Run y.value).id id t)
          (bared_but f b (parent id) (in_case (parent id) (parent_there id long not_a_case)) old w e is y hung no_net names))
          (λ (t : same (out-Run y.value).id id ≡ false). absurd (subst (λ (z : Bool). IsSomeAnd (cond z (Some y.value) None) HasNoNet) t h))

      pub bared_but_run : (names : ℕ → List ℕ) → (sites_of names (item_replaced f (parent id) w) ≡ bare_but (sites_of names f) (parent id) id) × IsForest (item_replaced f (parent id) w)
      bared_but_run names = by_hung names (out-Node old).run refl (subst (λ o. IsSomeAnd o HasNoNet) (run_at_item f id not_a_case u ∙ ap (option_and_then (run_of_item id)) e) alone)
