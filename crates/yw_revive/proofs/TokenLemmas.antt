-- Rows of tokens and counts are each other's.
use Rattle.std.proofs.Common.{◌≡◌, ◌⊎◌, ◌==◌, ◌&&◌, ℕ, zero, suc, Bool, true, false, List, [], ◌∷◌, ◌++◌, length, Option, Some, None, inl, inr, refl, sym, ap, ◌∙◌, subst, arith, if◌then◌else◌}
use Rattle.std.proofs.lemmas.Bool.{eqb-true}
use Rattle.std.proofs.lemmas.Slice.Eq.{bytes_eq-Decides}
use Rattle.std.specs.Prelude.{slice_get}
use Rattle.yw_revive.specs.Taken.{AreOnce, NoneOf, Taken, and_before, count_of, first_of, further, is_of, left_after, taken}
use Rattle.yw_spec.specs.declared.spec.Place.{Place}
use Rattle.yw_spec.specs.declared.spec.Place.TheVariants.{Named, Between}
use Rattle.yw_state.proofs.Entries.{IsIn}
use Rattle.yw_state.proofs.Tests.{and_left, and_right, by_test, never}
use Rattle.yw_state.specs.Identity.{Ident, same}
use Rattle.yw_state.specs.Nets.{same_place}
use Rattle.yw_states.proofs.Tokens.{a_row, no_row, row}
use Rattle.yw_states.specs.States.{place_rows}
use Rattle.yw_states.specs.declared.cases.TokenRow.{TokenRow}

-- ---- the same place

same_is : (a b : List ℕ) → same a b ≡ true → a ≡ b
same_is a b e = (bytes_eq-Decides a b).0 e

same_self : (a : List ℕ) → same a a ≡ true
same_self a = (bytes_eq-Decides a a).1 refl

place_is : (a b : Place) → same_place a b ≡ true → a ≡ b
place_is (Named a) (Named b) e = ap Named (same_is a b e)
place_is (Named a) (Between b c) e = never e
place_is (Between a b) (Named c) e = never e
place_is (Between a b) (Between c d) e =
    ap (λ (x : List ℕ). Between x b) (same_is a c (and_left (same a c) (same b d) e)) ∙ ap (Between c) (same_is b d (and_right (same a c) (same b d) e))

place_self : (a : Place) → same_place a a ≡ true
place_self (Named a) = same_self a
place_self (Between a b) = ap (λ (u : Bool). u && same b b) (same_self a) ∙ same_self b

row_is : (j : Ident) (p : Place) (r : TokenRow) → is_of j p r ≡ true → row j p r.count ≡ r
row_is j p r e =
    ap (λ (x : Ident). let q : TokenRow = record { ident = x; place = p; count = r.count } in q) (sym (same_is r.ident j (and_left (same r.ident j) (same_place r.place p) e)))
    ∙ ap (λ (x : Place). let q : TokenRow = record { ident = r.ident; place = x; count = r.count } in q)
    (sym (place_is r.place p (and_right (same r.ident j) (same_place r.place p) e)))

is_of_row : (j : Ident) (p : Place) (n : ℕ) → is_of j p (row j p n) ≡ true
is_of_row j p n = ap (λ (u : Bool). u && same_place p p) (same_self j) ∙ place_self p

-- ---- from rows to counts and back

pub one_each : (j : Ident) (ps : List Place) (rows : List TokenRow) → length (taken j ps rows).0 ≡ length ps
one_each j [] rows = refl
one_each j (p ∷ ps) rows = ap suc (one_each j ps (left_after (count_of j p (first_of rows)) rows))

count_is : (j : Ident) (p : Place) (r : TokenRow) → (count_of j p (Some r) == 0) ≡ false → (is_of j p r ≡ true) × (count_of j p (Some r) ≡ r.count)
count_is j p r some =
    by_test (is_of j p r)
    (λ (t : is_of j p r ≡ true). (t, ap (λ (u : Bool). if u then r.count else 0) t))
    (λ (t : is_of j p r ≡ false). never (sym some ∙ ap (λ (u : Bool). (if u then r.count else 0) == 0) t))

module _ (j : Ident) (p : Place) (ps : List Place) (back : (rows : List TokenRow) → place_rows j ps (taken j ps rows).0 ++ (taken j ps rows).1 ≡ rows) where
  by_count : (rows : List TokenRow) (n : ℕ) → count_of j p (first_of rows) ≡ n
      → place_rows j (p ∷ ps) (n ∷ (taken j ps (left_after n rows)).0) ++ (taken j ps (left_after n rows)).1 ≡ rows
  by_count rows n is =
      by_test (n == 0)
      (λ (e : (n == 0) ≡ true).
      let same_rows : left_after n rows ≡ rows = ap (λ (u : Bool). if u then rows else further rows) e in
      ap (λ (l : List TokenRow). l ++ (taken j ps (left_after n rows)).1) (no_row j p ps n (taken j ps (left_after n rows)).0 e)
      ∙ back (left_after n rows) ∙ same_rows)
      (λ (e : (n == 0) ≡ false).
      ap (λ (l : List TokenRow). l ++ (taken j ps (left_after n rows)).1) (a_row j p ps n (taken j ps (left_after n rows)).0 e)
      ∙ ap (λ (l : List TokenRow). row j p n ∷ l) (back (left_after n rows) ∙ ap (λ (u : Bool). if u then rows else further rows) e)
      ∙ first_back rows n is e)
    where
      first_back : (rows : List TokenRow) (n : ℕ) → count_of j p (first_of rows) ≡ n → (n == 0) ≡ false → row j p n ∷ further rows ≡ rows
      first_back [] n is e = never (sym e ∙ ap (λ (m : ℕ). m == 0) (sym is))
      first_back (r ∷ rs) n is e =
          let of = count_is j p r (ap (λ (m : ℕ). m == 0) is ∙ e) in
          ap (λ (q : TokenRow). q ∷ rs) (ap (row j p) (sym is ∙ of.1) ∙ row_is j p r of.0)

pub rows_back : (j : Ident) (ps : List Place) (rows : List TokenRow) → place_rows j ps (taken j ps rows).0 ++ (taken j ps rows).1 ≡ rows
rows_back j [] rows = refl
rows_back j (p ∷ ps) rows = by_count j p ps (rows_back j ps) rows (count_of j p (first_of rows)) refl

-- ---- from counts to rows and back

once_further : (p : Place) (ps : List Place) → AreOnce (p ∷ ps) → AreOnce ps
once_further p ps once i k q e d = omega (arith, once (suc i) (suc k) q e d)

-- the row is of one of the places, or it is among the others
abbrev IsFound : List Place → List TokenRow → TokenRow → Type 0
IsFound ps xs r = ((i : ℕ) × (slice_get ps i ≡ Some r.place)) ⊎ IsIn xs r

further_on : (p : Place) (ps : List Place) (xs : List TokenRow) (r : TokenRow) → IsFound ps xs r → IsFound (p ∷ ps) xs r
further_on p ps xs r (inl at) = inl (suc at.0, at.1)
further_on p ps xs r (inr among) = inr among

here_or_further : (j : Ident) (p : Place) (ps : List Place) (n : ℕ) (rows xs : List TokenRow) (r : TokenRow) → (IsIn rows r → IsFound ps xs r)
    → IsIn (row j p n ∷ rows) r → IsFound (p ∷ ps) xs r
here_or_further j p ps n rows xs r others (inl here) = inl (zero, ap (λ (q : TokenRow). Some q.place) here)
here_or_further j p ps n rows xs r others (inr rest) = further_on p ps xs r (others rest)

found : (j : Ident) (ps : List Place) (ns : List ℕ) (xs : List TokenRow) (r : TokenRow) → IsIn (place_rows j ps ns ++ xs) r → IsFound ps xs r
found j [] ns xs r within = inr within
found j (p ∷ ps) [] xs r within = inr within
found j (p ∷ ps) (n ∷ ns) xs r within =
    by_test (n == 0)
    (λ e. further_on p ps xs r (found j ps ns xs r (subst (λ (rows : List TokenRow). IsIn (rows ++ xs) r) (no_row j p ps n ns e) within)))
    (λ e. here_or_further j p ps n (place_rows j ps ns ++ xs) xs r (λ rest. found j ps ns xs r rest)
    (subst (λ (rows : List TokenRow). IsIn (rows ++ xs) r) (a_row j p ps n ns e) within))

-- no row of the other places is of this one
none_first : (j : Ident) (p : Place) (ps : List Place) (ns : List ℕ) (xs : List TokenRow) → AreOnce (p ∷ ps) → NoneOf j xs
    → count_of j p (first_of (place_rows j ps ns ++ xs)) ≡ 0
none_first j p ps ns xs once none = by (place_rows j ps ns ++ xs) (λ r within. found j ps ns xs r within)
  where
    of_other : (r : TokenRow) → is_of j p r ≡ true → IsFound ps xs r → ⊥
    of_other r t (inl at) =
        omega (arith, once zero (suc at.0) p refl (at.1 ∙ ap (λ (q : Place). Some q) (place_is r.place p (and_right (same r.ident j) (same_place r.place p) t))))
    of_other r t (inr among) = none r among (same_is r.ident j (and_left (same r.ident j) (same_place r.place p) t))

    by : (rows : List TokenRow) → ((r : TokenRow) → IsIn rows r → IsFound ps xs r) → count_of j p (first_of rows) ≡ 0
    by [] all = refl
    by (r ∷ rs) all =
        by_test (is_of j p r)
        (λ (t : is_of j p r ≡ true). absurd (of_other r t (all r (inl refl))))
        (λ (t : is_of j p r ≡ false). ap (λ (u : Bool). if u then r.count else 0) t)

module _ (j : Ident) (p : Place) (ps : List Place) (n : ℕ) (ns : List ℕ) (xs : List TokenRow) (once : AreOnce (p ∷ ps)) (none : NoneOf j xs)
    (others : taken j ps (place_rows j ps ns ++ xs) ≡ (ns, xs)) where
  abbrev rest : List TokenRow
  rest = place_rows j ps ns ++ xs

  by_first : (rows : List TokenRow) → count_of j p (first_of rows) ≡ n → left_after n rows ≡ rest → taken j (p ∷ ps) rows ≡ (n ∷ ns, xs)
  by_first rows is left =
      ap (λ (m : ℕ). and_before m (taken j ps (left_after m rows))) is ∙ ap (λ (l : List TokenRow). and_before n (taken j ps l)) left
      ∙ ap (and_before n) others

  again : taken j (p ∷ ps) (place_rows j (p ∷ ps) (n ∷ ns) ++ xs) ≡ (n ∷ ns, xs)
  again =
      by_test (n == 0)
      (λ (e : (n == 0) ≡ true).
      ap (λ (l : List TokenRow). taken j (p ∷ ps) (l ++ xs)) (no_row j p ps n ns e)
      ∙ by_first rest (none_first j p ps ns xs once none ∙ sym (eqb-true n 0 e)) (ap (λ (u : Bool). if u then rest else further rest) e))
      (λ (e : (n == 0) ≡ false).
      ap (λ (l : List TokenRow). taken j (p ∷ ps) (l ++ xs)) (a_row j p ps n ns e)
      ∙ by_first (row j p n ∷ rest) (ap (λ (u : Bool). if u then n else 0) (is_of_row j p n))
      (ap (λ (u : Bool). if u then row j p n ∷ rest else rest) e))

pub counts_back : (j : Ident) (ps : List Place) (ns : List ℕ) (xs : List TokenRow) → AreOnce ps → NoneOf j xs → length ns ≡ length ps
    → taken j ps (place_rows j ps ns ++ xs) ≡ (ns, xs)
counts_back j [] [] xs once none size = refl
counts_back j [] (n ∷ ns) xs once none size = absurd (omega (arith, size))
counts_back j (p ∷ ps) [] xs once none size = absurd (omega (arith, size))
counts_back j (p ∷ ps) (n ∷ ns) xs once none size =
    again j p ps n ns xs once none (counts_back j ps ns xs (once_further p ps once) none (omega (arith, size)))
