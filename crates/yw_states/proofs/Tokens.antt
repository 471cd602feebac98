-- Tokens of nets are the same where their rows are.
use Rattle.std.proofs.Common.{◌≡◌, ◌⊎◌, ◌==◌, ℕ, zero, suc, Bool, true, false, List, [], ◌∷◌, ◌++◌, length, Some, inl, inr, refl, sym, ap, ◌∙◌, subst, arith, if◌then◌else◌}
use Rattle.std.specs.Prelude.{slice_get}
use Rattle.std.proofs.lemmas.Bool.{eqb-true}
use Rattle.yw_spec.specs.declared.spec.Place.{Place}
use Rattle.yw_state.proofs.Entries.{IsIn}
use Rattle.yw_state.proofs.Tests.{by_test}
use Rattle.yw_state.specs.Identity.{Ident}
use Rattle.yw_states.proofs.Lists.{both_same, first_same, rest_same}
use Rattle.yw_states.specs.States.{place_rows}
use Rattle.yw_states.specs.declared.cases.TokenRow.{TokenRow}

-- no place has two numbers
abbrev pub AreOnce : List Place → Type 0
AreOnce ps = (i k : ℕ) (p : Place) → slice_get ps i ≡ Some p → slice_get ps k ≡ Some p → i ≡ k

once_further : (p : Place) (ps : List Place) → AreOnce (p ∷ ps) → AreOnce ps
once_further p ps once i k q e d = omega (arith, once (suc i) (suc k) q e d)

-- none of the rows is of the net at j
abbrev pub NoneOf : Ident → List TokenRow → Type 0
NoneOf j rows = (r : TokenRow) → IsIn rows r → r.ident ≡ j → ⊥

abbrev pub row : Ident → Place → ℕ → TokenRow
row j p n = record { ident = j; place = p; count = n }

-- where no token is, there is no row
pub no_row : (j : Ident) (p : Place) (ps : List Place) (n : ℕ) (ns : List ℕ) → (n == 0) ≡ true → place_rows j (p ∷ ps) (n ∷ ns) ≡ place_rows j ps ns
no_row j p ps n ns e = ap (λ (b : Bool). if b then place_rows j ps ns else row j p n ∷ place_rows j ps ns) e

pub a_row : (j : Ident) (p : Place) (ps : List Place) (n : ℕ) (ns : List ℕ) → (n == 0) ≡ false
    → place_rows j (p ∷ ps) (n ∷ ns) ≡ row j p n ∷ place_rows j ps ns
a_row j p ps n ns e = ap (λ (b : Bool). if b then place_rows j ps ns else row j p n ∷ place_rows j ps ns) e

-- the row is of one of the places, or it is among the others
abbrev IsFound : List Place → List TokenRow → TokenRow → Type 0
IsFound ps xs r = ((i : ℕ) × (slice_get ps i ≡ Some r.place)) ⊎ IsIn xs r

further_on : (p : Place) (ps : List Place) (xs : List TokenRow) (r : TokenRow) → IsFound ps xs r → IsFound (p ∷ ps) xs r
further_on p ps xs r (inl at) = inl (suc at.0, at.1)
further_on p ps xs r (inr further) = inr further

here_or_further : (j : Ident) (p : Place) (ps : List Place) (n : ℕ) (rows xs : List TokenRow) (r : TokenRow) → (IsIn rows r → IsFound ps xs r)
    → IsIn (row j p n ∷ rows) r → IsFound (p ∷ ps) xs r
here_or_further j p ps n rows xs r others (inl same) = inl (zero, ap (λ (q : TokenRow). Some q.place) same)
here_or_further j p ps n rows xs r others (inr rest) = further_on p ps xs r (others rest)

found : (j : Ident) (ps : List Place) (ns : List ℕ) (xs : List TokenRow) (r : TokenRow) → IsIn (place_rows j ps ns ++ xs) r → IsFound ps xs r
found j [] ns xs r within = inr within
found j (p ∷ ps) [] xs r within = inr within
found j (p ∷ ps) (n ∷ ns) xs r within =
    by_test (n == 0)
    (λ e. further_on p ps xs r (found j ps ns xs r (subst (λ (rows : List TokenRow). IsIn (rows ++ xs) r) (no_row j p ps n ns e) within)))
    (λ e. here_or_further j p ps n (place_rows j ps ns ++ xs) xs r (λ rest. found j ps ns xs r rest)
    (subst (λ (rows : List TokenRow). IsIn (rows ++ xs) r) (a_row j p ps n ns e) within))

-- where the first place has tokens by one list, it has some by the other
not_alone : (j : Ident) (p : Place) (ps : List Place) (m : ℕ) (ns : List ℕ) (xs ys : List TokenRow) → AreOnce (p ∷ ps) → NoneOf j xs
    → place_rows j ps ns ++ xs ≡ row j p m ∷ ys → ⊥
not_alone j p ps m ns xs ys once none e = by (found j ps ns xs (row j p m)
    (subst (λ (rows : List TokenRow). IsIn rows (row j p m)) (sym e) (inl refl)))
  where
    by : ((i : ℕ) × (slice_get ps i ≡ Some p)) ⊎ IsIn xs (row j p m) → ⊥
    by (inl at) = omega (arith, once zero (suc at.0) p refl at.1)
    by (inr further) = none (row j p m) further refl

-- what the counts of the first place are, where those of the others are the same
counts_by : (j : Ident) (p : Place) (ps : List Place) (m n : ℕ) (ms ns : List ℕ) (xs ys : List TokenRow) → AreOnce (p ∷ ps) → NoneOf j xs → NoneOf j ys
    → (place_rows j ps ms ++ xs ≡ place_rows j ps ns ++ ys → (ms ≡ ns) × (xs ≡ ys))
    → place_rows j (p ∷ ps) (m ∷ ms) ++ xs ≡ place_rows j (p ∷ ps) (n ∷ ns) ++ ys → (m ∷ ms ≡ n ∷ ns) × (xs ≡ ys)
counts_by j p ps m n ms ns xs ys once none other further e =
    by_test (m == 0)
    (λ a. by_test (n == 0)
    (λ b. let more = further (sym (none_left a) ∙ e ∙ none_right b) in (both_same m n ms ns (eqb-true m 0 a ∙ sym (eqb-true n 0 b)) more.0, more.1))
    (λ b. absurd (not_alone j p ps n ms xs (place_rows j ps ns ++ ys) once none (sym (none_left a) ∙ e ∙ one_right b))))
    (λ a. by_test (n == 0)
    (λ b. absurd (not_alone j p ps m ns ys (place_rows j ps ms ++ xs) once other (sym (none_right b) ∙ sym e ∙ one_left a)))
    (λ b. let both = sym (one_left a) ∙ e ∙ one_right b in
    let more = further (rest_same (row j p m) (row j p n) (place_rows j ps ms ++ xs) (place_rows j ps ns ++ ys) both) in (
      both_same m n ms ns (ap (λ (r : TokenRow). r.count)
          (first_same (row j p m) (row j p n) (place_rows j ps ms ++ xs) (place_rows j ps ns ++ ys) both)) more.0,
      more.1,
    )))
  where
    none_left : (m == 0) ≡ true → place_rows j (p ∷ ps) (m ∷ ms) ++ xs ≡ place_rows j ps ms ++ xs
    none_left a = ap (λ (rows : List TokenRow). rows ++ xs) (no_row j p ps m ms a)

    none_right : (n == 0) ≡ true → place_rows j (p ∷ ps) (n ∷ ns) ++ ys ≡ place_rows j ps ns ++ ys
    none_right b = ap (λ (rows : List TokenRow). rows ++ ys) (no_row j p ps n ns b)

    one_left : (m == 0) ≡ false → place_rows j (p ∷ ps) (m ∷ ms) ++ xs ≡ row j p m ∷ (place_rows j ps ms ++ xs)
    one_left a = ap (λ (rows : List TokenRow). rows ++ xs) (a_row j p ps m ms a)

    one_right : (n == 0) ≡ false → place_rows j (p ∷ ps) (n ∷ ns) ++ ys ≡ row j p n ∷ (place_rows j ps ns ++ ys)
    one_right b = ap (λ (rows : List TokenRow). rows ++ ys) (a_row j p ps n ns b)

-- the counts of one net, with the rows of others after it
pub same_counts : (j : Ident) (ps : List Place) (ms ns : List ℕ) (xs ys : List TokenRow) → AreOnce ps → length ms ≡ length ps
    → length ns ≡ length ps → NoneOf j xs → NoneOf j ys → place_rows j ps ms ++ xs ≡ place_rows j ps ns ++ ys → (ms ≡ ns) × (xs ≡ ys)
same_counts j [] [] [] xs ys once left right none other e = (refl, e)
same_counts j [] (m ∷ ms) ns xs ys once left right none other e = absurd (omega (arith, left))
same_counts j [] [] (n ∷ ns) xs ys once left right none other e = absurd (omega (arith, right))
same_counts j (p ∷ ps) [] ns xs ys once left right none other e = absurd (omega (arith, left))
same_counts j (p ∷ ps) (m ∷ ms) [] xs ys once left right none other e = absurd (omega (arith, right))
same_counts j (p ∷ ps) (m ∷ ms) (n ∷ ns) xs ys once left right none other e =
    counts_by j p ps m n ms ns xs ys once none other
    (λ d. same_counts j ps ms ns xs ys (once_further p ps once) (omega (arith, left)) (omega (arith, right)) none other d) e
