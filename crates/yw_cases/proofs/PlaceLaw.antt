-- Places of a net by their numbers, where no two are alike.
use Rattle.std.proofs.Common.{ap, get_or, length, refl, sym, ◌∙◌}
use Rattle.std.proofs.lemmas.Bool.{and_from, and_parts, eq-eqb, eqb-true}
use Rattle.std.proofs.lemmas.List.Quantifiers.{position-Some}
use Rattle.std.proofs.lemmas.Option.{slice_get_read}
use Rattle.std.proofs.lemmas.Slice.Eq.{bytes_eq-Decides}
use Rattle.std.specs.Prelude.{Bool, None, Some, false, nat_eq, slice_get, true, ℕ, ◌≡◌}
use Rattle.std.specs.Str.{bytes_eq}
use Rattle.yw_cases.specs.Places.{ArePlacesApart}
use Rattle.yw_spec.specs.declared.spec.Net.{Net}
use Rattle.yw_spec.specs.declared.spec.Place.{Place}
use Rattle.yw_spec.specs.declared.spec.Place.TheVariants.{Between, Named}
use Rattle.yw_state.proofs.Tests.{by_option, by_test, never, nowhere, some_same}
use Rattle.yw_state.specs.Nets.{place_number, same_place}
use Rattle.yw_state.specs.Options.{is_some_and}

-- ---- two places

alike : (p q : Place) → same_place p q ≡ true → p ≡ q
alike (Named a) (Named b) e = ap Named ((bytes_eq-Decides a b).0 e)
alike (Between a b) (Between c d) e =
    let parts = and_parts (bytes_eq a c) (bytes_eq b d) e in
    let front = (bytes_eq-Decides a c).0 parts.0 in
    let back = (bytes_eq-Decides b d).0 parts.1 in
    cc
alike p q e = never e

itself : (p : Place) → same_place p p ≡ true
itself (Named a) = (bytes_eq-Decides a a).1 refl
itself (Between a b) = and_from (bytes_eq a a) (bytes_eq b b) ((bytes_eq-Decides a a).1 refl) ((bytes_eq-Decides b b).1 refl)

-- ---- the place with a number

module _ (net : Net) (p : Place) (c : ℕ) where
  -- what has the number stands there
  at_its_number : (k : ℕ) → place_number net p ≡ Some k → slice_get net.places k ≡ Some p
  at_its_number k e =
      let found = position-Some (same_place p) net.places k p e in
      slice_get_read net.places (length net.places) k p refl found.0 (alike p (get_or net.places k p) found.1)

  -- so where it doesn't stand there, it hasn't the number
  not_there : (slice_get net.places c ≡ Some p → ⊥) → is_some_and (place_number net p) (λ k. nat_eq k c) ≡ false
  not_there nothing =
      by_option (place_number net p)
      (λ e. ap (λ o. is_some_and o (λ (k : ℕ). nat_eq k c)) e)
      (λ k e. ap (λ o. is_some_and o (λ (j : ℕ). nat_eq j c)) e
      ∙ by_test (nat_eq k c) (λ same. absurd (nothing (ap (slice_get net.places) (sym (eqb-true k c same)) ∙ at_its_number k e))) (λ other. other))

  pub none_there : slice_get net.places c ≡ None → false ≡ is_some_and (place_number net p) (λ k. nat_eq k c)
  none_there none = sym (not_there (λ at. nowhere (sym none ∙ at)))

  pub one_there : ArePlacesApart net → (q : Place) → slice_get net.places c ≡ Some q → (b : Bool) → b ≡ same_place p q
      → b ≡ is_some_and (place_number net p) (λ k. nat_eq k c)
  one_there apart q at true same =
      let number : place_number net p ≡ Some c = ap (place_number net) (alike p q (sym same)) ∙ apart c q at in
      sym (ap (λ o. is_some_and o (λ (k : ℕ). nat_eq k c)) number ∙ eq-eqb c c refl)
  one_there apart q at false other =
      sym (not_there (λ there. never (other ∙ ap (same_place p) (some_same q p (sym at ∙ there)) ∙ itself p)))
