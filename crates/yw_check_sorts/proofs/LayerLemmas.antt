-- The sort of a name in a layer.
use Rattle.std.proofs.Common.{◌≡◌, ℕ, ◌≤◌, Bool, true, false, cond, List, [], ◌∷◌, map, length, find, position, Option, Some, None, bytes_eq, nat_lt, inl, inr, refl, sym, ap, ◌∙◌, arith}
use Rattle.std.specs.Prelude.{slice_get, option_map}
use Rattle.std.specs.List.{position_or_len}
use Rattle.std.proofs.lemmas.Bool.{cases_Bool}
use Rattle.std.proofs.lemmas.Bool.Decides.{nat_tests}
use Rattle.std.proofs.lemmas.List.Folds.{find_at}
use Rattle.std.proofs.lemmas.Option.{none-some, same_Some, slice_get_past}
use Rattle.yw_base.specs.declared.value.Sort.{Sort}
use Rattle.yw_expr.specs.declared.scope.Binding.{Binding}
use Rattle.yw_expr.specs.Scope.{place_in}
use Rattle.yw_read.specs.declared.raw.RawVar.{RawVar}
use Rattle.yw_read.specs.declared.raw.RawNet.{RawNet}
use Rattle.yw_accept.specs.Scopes.{vars_scope, sort_of_var}
use Rattle.yw_check_sorts.specs.Wanted.{sort_named}

-- ---- the first element that passes, and its place

module _ {A : Type 0} (p : A → Bool) where
  position_is : (xs : List A) (b : Bool) → nat_lt (position_or_len p xs) (length xs) ≡ b → position p xs ≡ cond b (Some (position_or_len p xs)) None
  position_is xs b e = ap (λ c. cond c (Some (position_or_len p xs)) None) e

  pub find_some : (xs : List A) (k : ℕ) → position p xs ≡ Some k → find p xs ≡ slice_get xs k
  find_some xs k h = elim (cases_Bool (nat_lt (position_or_len p xs) (length xs))) [
    | inl t ↦ let e : position_or_len p xs ≡ k = same_Some _ _ (sym (position_is xs true t) ∙ h) in find_at p xs ∙ ap (slice_get xs) e
    | inr f ↦ absurd (none-some k (sym (position_is xs false f) ∙ h))
  ]

  pub find_none : (xs : List A) → position p xs ≡ None → find p xs ≡ None
  find_none xs h = elim (cases_Bool (nat_lt (position_or_len p xs) (length xs))) [
    | inl t ↦ absurd (none-some _ (sym h ∙ position_is xs true t))
    | inr f ↦ let le : length xs ≤ position_or_len p xs = grind (arith, nat_tests) in find_at p xs ∙ slice_get_past xs _ le
  ]

  find_of_map : {B : Type 0} (f : B → A) (xs : List B) → find p (map f xs) ≡ option_map f (find (λ x. p (f x)) xs)
  find_of_map f [] = refl
  find_of_map f (x ∷ xs) = elim (cases_Bool (p (f x))) [
    | inl t ↦ ap (λ b. cond b (Some (f x)) (find p (map f xs))) t ∙ ap (λ b. option_map f (cond b (Some x) (find (λ y. p (f y)) xs))) (sym t)
    | inr e ↦
        ap (λ b. cond b (Some (f x)) (find p (map f xs))) e ∙ find_of_map f xs
        ∙ ap (λ b. option_map f (cond b (Some x) (find (λ y. p (f y)) xs))) (sym e)
  ]

option_map_map : {A B C : Type 0} (g : B → C) (f : A → B) (o : Option A) → option_map g (option_map f o) ≡ option_map (λ x. g (f x)) o
option_map_map g f None = refl
option_map_map g f (Some x) = refl

-- ---- the sort of a name

pub sort_at_place : (bindings : List Binding) (name : List ℕ) (k : ℕ) (r : Option Sort) → place_in bindings name ≡ Some k → r ≡ option_map (λ (b : Binding). b.sort) (slice_get bindings k) → r ≡ sort_named bindings name
sort_at_place bindings name k r at e = e ∙ ap (option_map (λ (b : Binding). b.sort)) (sym (find_some (λ (b : Binding). bytes_eq b.name name) bindings k at))

pub no_sort : (bindings : List Binding) (name : List ℕ) → place_in bindings name ≡ None → None ≡ sort_named bindings name
no_sort bindings name at = ap (option_map (λ (b : Binding). b.sort)) (sym (find_none (λ (b : Binding). bytes_eq b.name name) bindings at))

pub sort_named-vars : (net : RawNet) (name : List ℕ) → sort_named (vars_scope net) name ≡ sort_of_var net name
sort_named-vars net name =
    let bound : RawVar → Binding = λ v. record { name = v.name; sort = v.sort } in
    ap (option_map (λ (b : Binding). b.sort)) (find_of_map (λ (b : Binding). bytes_eq b.name name) bound net.vars)
    ∙ option_map_map (λ (b : Binding). b.sort) bound (find (λ (v : RawVar). bytes_eq v.name name) net.vars)
