-- A name that comes once is new to the layer of the names before it.
use Rattle.std.proofs.Common.{◌≡◌, ℕ, ◌<◌, List, [], map, length, get_or, take, Option, Some, None, refl, sym, ap, ◌∙◌, subst, arith, length-take-le}
use Rattle.std.proofs.lemmas.List.{get_or-map, get_or-take, length-map}
use Rattle.std.proofs.lemmas.List.Quantifiers.{position-Some}
use Rattle.std.proofs.lemmas.Slice.Eq.{bytes_eq-Decides}
use Rattle.std.specs.Str.{bytes_eq}
use Rattle.yw_base.specs.declared.value.Sort.{Sort}
use Rattle.yw_expr.specs.declared.scope.Binding.{Binding}
use Rattle.yw_expr.specs.Scope.{binding, place_in}
use Rattle.yw_accept.specs.Facts.{AreDistinct}

module _ {A : Type 0} (name : A → List ℕ) (sort : A → Sort) (xs : List A) (distinct : AreDistinct (map name xs)) where
  abbrev bound : A → Binding
  bound x = binding (name x) (sort x)

  not_before : (i : ℕ) (x : A) (o : Option ℕ) → i < length xs → x ≡ get_or xs i x → place_in (map bound (take i xs)) (name x) ≡ o → o ≡ None
  not_before i x None lt is at = refl
  not_before i x (Some k) lt is at =
      let found = position-Some (λ (b : Binding). bytes_eq b.name (name x)) (map bound (take i xs)) k (bound x) at in
      let few : length (map bound (take i xs)) ≡ i = length-map (take i xs) bound ∙ length-take-le i xs (omega (arith, lt)) in
      let before : k < i = omega (arith, found.0, few) in
      let there : get_or (map bound (take i xs)) k (bound x) ≡ bound (get_or xs k x) = get_or-map bound (take i xs) k x (bound x) (omega (arith, found.0, length-map (take i xs) bound)) ∙ ap bound (get_or-take i xs k x before) in
      let same : name (get_or xs k x) ≡ name x = ap (λ (b : Binding). b.name) (sym there) ∙ (bytes_eq-Decides (get_or (map bound (take i xs)) k (bound x)).name (name x)).0 found.1 in
      let as_many : length (map name xs) ≡ length xs = length-map xs name in
      let at_k : get_or (map name xs) k [] ≡ name (get_or xs k x) = get_or-map name xs k x [] (omega (arith, before, lt)) in
      let at_i : get_or (map name xs) i [] ≡ name x = get_or-map name xs i x [] lt ∙ ap name (sym is) in
      let one : k ≡ i = distinct k i (omega (arith, before, lt, as_many)) (omega (arith, lt, as_many)) (at_k ∙ same ∙ sym at_i) in
      absurd (omega (arith, one, before))

  pub new_name : (layer : List Binding) (items : List A) (i : ℕ) (x : A) (text : List ℕ) → items ≡ xs → i < length items → x ≡ get_or items i x → text ≡ name x → layer ≡ map bound (take i xs) → place_in layer text ≡ None
  new_name layer items i x text same lt is text_is layer_is =
      ap (λ bs. place_in bs text) layer_is ∙ ap (place_in (map bound (take i xs))) text_is
      ∙ not_before i x (place_in (map bound (take i xs)) (name x)) (subst (λ ys. i < length ys) same lt) (is ∙ ap (λ ys. get_or ys i x) same) refl
