-- The first item that leads to an identity, by places.
use Rattle.std.proofs.Common.{List, None, Option, Some, [], ap, arith, length, refl, suc, zero, ℕ, ◌∙◌, ◌∷◌, ◌≡◌}
use Rattle.std.specs.Prelude.{Vec, option_map, slice_get}
use Rattle.std.specs.declared.alloc.Global.{Global}
use Rattle.yw_state.proofs.Tests.{nowhere, some_same}
use Rattle.yw_state.specs.Identity.{Ident}
use Rattle.yw_tree.proofs.Lists.{EachBelow}
use Rattle.yw_tree.specs.Ways.{next_list, or_later, place_among, place_in}
use Rattle.yw_tree.specs.declared.Node.{Node}

module _ (id : Ident) where
  abbrev pub OffRow : Vec Node Global → Type 0
  OffRow v = place_in id v.items ≡ None

  pub first_among : (vs : List (Vec Node Global)) (t i : ℕ) (v : Vec Node Global) → EachBelow OffRow vs t → slice_get vs t ≡ Some v → place_in id v.items ≡ Some i → place_among id vs ≡ Some (t, i)
  first_among [] t i v off e l = nowhere e
  first_among (x ∷ vs) zero i v off e l = ap (λ (o : Option ℕ). or_later o (place_among id vs)) (ap (λ (z : Vec Node Global). place_in id z.items) (some_same x v e) ∙ l)
  first_among (x ∷ vs) (suc t) i v off e l =
      ap (λ (o : Option ℕ). or_later o (place_among id vs)) (off zero x (omega arith) refl)
      ∙ ap (option_map next_list) (first_among vs t i v (λ k y lt f. off (suc k) y (omega arith) f) e l)

  pub none_among : (vs : List (Vec Node Global)) → EachBelow OffRow vs (length vs) → place_among id vs ≡ None
  none_among [] off = refl
  none_among (x ∷ vs) off =
      ap (λ (o : Option ℕ). or_later o (place_among id vs)) (off zero x (omega arith) refl)
      ∙ ap (option_map next_list) (none_among vs (λ k y lt f. off (suc k) y (omega arith) f))
