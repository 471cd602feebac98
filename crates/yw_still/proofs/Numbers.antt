-- Lists of numbers: which are the same, and which pass a test.
use Rattle.std.specs.Prelude.{◌≡◌, ℕ, ◌||◌, Bool, true, false, List, [], ◌∷◌, length, filter, nat_eq, nat_lt, refl, cond}
use Rattle.std.specs.List.{list_all, list_any}
use Rattle.std.specs.Cmp.Lexicographic.{pointwise}
use Rattle.std.proofs.Common.{sym, ◌∙◌, ap, arith}
use Rattle.std.proofs.lemmas.Bool.{and_parts, and_from, eq-eqb, eqb-true, lt-ltb, or_left, or_right}
use Rattle.yw_state.proofs.Tests.{by_test, never}
use Rattle.yw_state.specs.Nets.{is_among}

pub clash : {A : Type 0} {b : Bool} → b ≡ false → b ≡ true → A
clash none some = never (sym none ∙ some)

pub alike : (cs : List ℕ) → pointwise nat_eq cs cs ≡ true
alike [] = refl
alike (c ∷ cs) = and_from (nat_eq c c) (pointwise nat_eq cs cs) (eq-eqb c c refl) (alike cs)

module _ (p : ℕ → Bool) where
  pub one_of_all : (cs : List ℕ) (c : ℕ) → list_all p cs ≡ true → is_among cs c ≡ true → p c ≡ true
  one_of_all [] c all among = never among
  one_of_all (d ∷ cs) c all among =
      let parts = and_parts (p d) (list_all p cs) all in
      by_test (nat_eq c d)
      (λ here. ap p (eqb-true c d here) ∙ parts.0)
      (λ other. one_of_all cs c parts.1 (ap (λ b. b || list_any (nat_eq c) cs) (sym other) ∙ among))

  pub among_passes : (cs : List ℕ) (b : ℕ) → is_among cs b ≡ true → p b ≡ true → list_any p cs ≡ true
  among_passes [] b among pass = never among
  among_passes (c ∷ cs) b among pass =
      by_test (nat_eq b c)
      (λ here. or_left (p c) (list_any p cs) (ap p (sym (eqb-true b c here)) ∙ pass))
      (λ other. or_right (p c) (list_any p cs) (among_passes cs b (ap (λ t. t || list_any (nat_eq b) cs) (sym other) ∙ among) pass))

  pub some_one : (cs : List ℕ) → list_any p cs ≡ true → (c : ℕ) × (is_among cs c ≡ true) × (p c ≡ true)
  some_one [] some = never some
  some_one (c ∷ cs) some =
      by_test (p c)
      (λ here. (c, or_left (nat_eq c c) _ (eq-eqb c c refl), here))
      (λ none. let rest = some_one cs (ap (λ b. b || list_any p cs) (sym none) ∙ some) in (rest.0, or_right (nat_eq rest.0 c) _ rest.1, rest.2))

  -- as `filter` takes its first step
  abbrev first_kept : ℕ → List ℕ → Bool → List ℕ
  first_kept c cs b = cond b (c ∷ filter p cs) (filter p cs)

  pub all_filtered : (q : ℕ → Bool) (cs : List ℕ) → list_all q cs ≡ true → list_all q (filter p cs) ≡ true
  all_filtered q [] all = refl
  all_filtered q (c ∷ cs) all =
      let parts = and_parts (q c) (list_all q cs) all in
      by_test (p c)
      (λ keeps. ap (λ b. list_all q (first_kept c cs b)) keeps ∙ and_from (q c) _ parts.0 (all_filtered q cs parts.1))
      (λ skips. ap (λ b. list_all q (first_kept c cs b)) skips ∙ all_filtered q cs parts.1)

  pub some_kept : (cs : List ℕ) → list_any p cs ≡ true → nat_lt 0 (length (filter p cs)) ≡ true
  some_kept [] some = never some
  some_kept (c ∷ cs) some =
      by_test (p c)
      (λ here. ap (λ b. nat_lt 0 (length (first_kept c cs b))) here ∙ lt-ltb 0 (length (c ∷ filter p cs)) (omega arith))
      (λ none. ap (λ b. nat_lt 0 (length (first_kept c cs b))) none ∙ some_kept cs (ap (λ b. b || list_any p cs) (sym none) ∙ some))

  pub kept_some : (cs : List ℕ) → nat_lt 0 (length (filter p cs)) ≡ true → list_any p cs ≡ true
  kept_some [] some = never some
  kept_some (c ∷ cs) some =
      by_test (p c)
      (λ here. or_left (p c) (list_any p cs) here)
      (λ none. or_right (p c) (list_any p cs) (kept_some cs (sym (ap (λ b. nat_lt 0 (length (first_kept c cs b))) none) ∙ some)))
