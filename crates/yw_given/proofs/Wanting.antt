-- Where each variable is the first of its name, a value is wanted if the variable of its name takes it.
use Rattle.std.specs.Prelude.{◌≡◌, ◌&&◌, ℕ, suc, Bool, true, false, cond, List, [], ◌∷◌, Option, Some, None, find, is_some, position, slice_get}
use Rattle.std.specs.Str.{bytes_eq}
use Rattle.std.proofs.Common.{sym, ◌∙◌, ap, subst, inl, inr}
use Rattle.std.proofs.lemmas.Bool.{and_from, and_parts}
use Rattle.std.proofs.lemmas.Slice.Eq.{bytes_eq-Decides}
use Rattle.yw_base.specs.Usages.{comes_in}
use Rattle.yw_given.specs.Found.{AreFirst, comes_as}
use Rattle.yw_spec.specs.declared.spec.Var.{Var}
use Rattle.yw_state.proofs.Entries.{IsIn, passes, passing}
use Rattle.yw_state.proofs.Tests.{by_test, never, nowhere, some_same}
use Rattle.yw_state.specs.Given.{as_sort, is_wanted}
use Rattle.yw_state.specs.Options.{is_some_and}
use Rattle.yw_state.specs.declared.command.Given.{Given}

-- an element has a number
has_number : {A : Type 0} (xs : List A) (x : A) → IsIn xs x → (k : ℕ) × (slice_get xs k ≡ Some x)
has_number [] x within = absurd within
has_number (y ∷ ys) x (inl e) = (0, ap (λ z. Some z) e)
has_number (y ∷ ys) x (inr within) = let rest = has_number ys x within in (suc rest.0, rest.1)

-- what is found is an element that passes
found_in : {A : Type 0} (p : A → Bool) (xs : List A) (x : A) → find p xs ≡ Some x → IsIn xs x × (p x ≡ true)
found_in p [] x e = nowhere e
found_in p (y ∷ ys) x e =
    by_test (p y)
    (λ t. let same : y ≡ x = some_same y x (sym (ap (λ b. cond b (Some y) (find p ys)) t) ∙ e) in (inl same, subst (λ z. p z ≡ true) same t))
    (λ t. let rest = found_in p ys x (sym (ap (λ b. cond b (Some y) (find p ys)) t) ∙ e) in (inr rest.0, rest.1))

-- none of them passes
found_none : {A : Type 0} (p : A → Bool) (xs : List A) (x : A) → find p xs ≡ None → IsIn xs x → p x ≡ false
found_none p [] x e within = absurd within
found_none p (y ∷ ys) x e within =
    by_test (p y)
    (λ t. nowhere (sym e ∙ ap (λ b. cond b (Some y) (find p ys)) t))
    (λ t. elim within [
      | inl same ↦ subst (λ z. p z ≡ false) same t
      | inr more ↦ found_none p ys x (sym (ap (λ b. cond b (Some y) (find p ys)) t) ∙ e) more
    ])

-- two variables of one name are the same
one_of_name : (xs : List Var) (x y : Var) → AreFirst xs → IsIn xs x → IsIn xs y → x.name ≡ y.name → x ≡ y
one_of_name xs x y first in_x in_y same =
    let i = has_number xs x in_x in
    let j = has_number xs y in_y in
    let number : i.0 ≡ j.0 =
    some_same i.0 j.0 (sym (first i.0 x i.1) ∙ ap (λ name. position (λ (z : Var). bytes_eq z.name name) xs) same ∙ first j.0 y j.1) in
    some_same x y (sym i.1 ∙ ap (slice_get xs) number ∙ j.1)

module _ (xs : List Var) (g : Given) (first : AreFirst xs) where
  abbrev takes : Var → Bool
  takes x = is_some (as_sort x.sort g.value)

  abbrev wants : Var → Bool
  wants x = bytes_eq x.name g.name && comes_in x.usage && takes x

  wanted_there : (x : Var) → find (λ y. comes_as y g.name) xs ≡ Some x → is_wanted xs g ≡ takes x
  wanted_there x e =
      let here = found_in (λ y. comes_as y g.name) xs x e in
      let parts = and_parts (comes_in x.usage) (bytes_eq x.name g.name) here.1 in
      by_test (takes x)
      (λ t. passes wants xs x here.0 (and_from _ _ (and_from _ _ parts.1 parts.0) t) ∙ sym t)
      (λ f. by_test (is_wanted xs g) (λ w. other parts.1 here.0 f (passing wants xs w)) (λ n. n ∙ sym f))
    where
      other : bytes_eq x.name g.name ≡ true → IsIn xs x → takes x ≡ false → (y : Var) × IsIn xs y × (wants y ≡ true) → is_wanted xs g ≡ takes x
      other named in_x f (y, in_y, w) =
          let all = and_parts (bytes_eq y.name g.name && comes_in y.usage) (takes y) w in
          let name = and_parts (bytes_eq y.name g.name) (comes_in y.usage) all.0 in
          let same : x.name ≡ y.name = (bytes_eq-Decides x.name g.name).0 named ∙ sym ((bytes_eq-Decides y.name g.name).0 name.0) in
          never (sym f ∙ ap takes (one_of_name xs x y first in_x in_y same) ∙ all.1)

  unwanted_there : find (λ y. comes_as y g.name) xs ≡ None → is_wanted xs g ≡ false
  unwanted_there e =
      by_test (is_wanted xs g)
      (λ w. let (y, in_y, wanted) = passing wants xs w in
      let all = and_parts (bytes_eq y.name g.name && comes_in y.usage) (takes y) wanted in
      let name = and_parts (bytes_eq y.name g.name) (comes_in y.usage) all.0 in
      never (sym (found_none (λ z. comes_as z g.name) xs y e in_y) ∙ and_from _ _ name.1 name.0))
      (λ n. n)

  pub wanted_is : (o : Option Var) → o ≡ find (λ y. comes_as y g.name) xs → is_wanted xs g ≡ is_some_and o takes
  wanted_is None e = unwanted_there (sym e)
  wanted_is (Some x) e = wanted_there x (sym e)
