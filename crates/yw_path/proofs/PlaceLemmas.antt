-- The rows of places, behind those of tasks.
use Rattle.std.proofs.Common.{◌≡◌, ℕ, zero, suc, ◌+◌, ◌-◌, ◌<◌, ◌≤◌, ◌⊎◌, inl, inr, List, [], ◌∷◌, ◌++◌, length, get_or, replicate, refl, sym, ap, ◌∙◌, subst, arith}
use Rattle.std.specs.Prelude.{Contains}
use Rattle.std.proofs.lemmas.Bool.{cases_eq}
use Rattle.std.proofs.lemmas.List.{get_or_append_left, get_or_push, length_push, length-replicate}
use Rattle.yw_path.proofs.BitLemmas.{has-empty}
use Rattle.yw_path.proofs.ClosureLemmas.{leads-within}
use Rattle.yw_path.proofs.FirstLemmas.{contains-nil}
use Rattle.yw_path.specs.Bits.{Adds, Has, words_for}
use Rattle.yw_path.specs.Places.{HasRow, HaveRows, IsUnion}
use Rattle.yw_path.specs.Rows.{Leads}

-- ---- several rows in one

pub union_none : (count : ℕ) (rows : List (List ℕ)) (row : List ℕ) → row ≡ replicate (words_for count) 0 → IsUnion count (Contains []) rows row
union_none count rows row e = record {
  len = ap length e ∙ length-replicate (words_for count) 0;
  only = λ u h. let P : List ℕ → Type 0 = λ r. Has r u in absurd (has-empty (words_for count) u (subst P e h));
  all = λ u t h. absurd (contains-nil t h);
}

pub union_more : (count : ℕ) (P R : ℕ → Type 0) (rows : List (List ℕ)) (row new : List ℕ) (at : ℕ) → ((t : ℕ) → P t → R t) → R at → ((t : ℕ) → R t → P t ⊎ (t ≡ at)) → IsUnion count P rows row → Adds (Has (get_or rows at [])) row new → IsUnion count R rows new
union_more count P R rows row new at more here parts is adds = record {
  len = adds.len ∙ is.len;
  only = λ u h. elim (adds.only u h) [
    | inl was ↦ let found = is.only u was in (found.0, more found.0 found.1, found.2)
    | inr leads ↦ (at, here, leads)
  ];
  all = λ u t r leads. elim (parts t r) [
    | inl p ↦ adds.keeps u (is.all u t p leads)
    | inr e ↦ let Q : ℕ → Type 0 = λ k. Leads rows u k in adds.all u (subst Q e leads)
  ];
}

-- ---- the row of a place

-- that of its one task
pub one_row : (t : ℕ) (tasks : List ℕ) (rows : List (List ℕ)) → tasks ≡ t ∷ [] → t < length rows → HasRow tasks rows rows t
one_row t tasks rows e lt = record {
  longer = omega arith;
  stay = λ k k_lt. refl;
  within = lt;
  only = λ u h. let P : List ℕ → Type 0 = λ ts. Contains ts t in (t, subst P (sym e) (0, omega arith, refl), h);
  all = λ u k h leads.
      let P : List ℕ → Type 0 = λ ts. Contains ts k in
      let Q : ℕ → Type 0 = λ j. Leads rows u j in
      subst Q (only_one t k (subst P e h)) leads;
}
  where
    only_one : (t k : ℕ) → Contains (t ∷ []) k → k ≡ t
    only_one t k (zero, lt, e) = sym e
    only_one t k (suc i, lt, e) = absurd (omega (arith, lt))

-- a row more
pub row_more : (count : ℕ) (tasks : List ℕ) (rows new : List (List ℕ)) (row : List ℕ) → IsUnion count (Contains tasks) rows row → new ≡ rows ++ row ∷ [] → HasRow tasks rows new (length rows)
row_more count tasks rows new row is e =
    let last : get_or new (length rows) [] ≡ row = ap (λ rs. get_or rs (length rows) []) e ∙ get_or_push rows row [] (length rows) refl in
    record {
      longer = omega (arith, ap length e, length_push rows row);
      stay = λ t lt. ap (λ rs. get_or rs t []) e ∙ get_or_append_left rows (row ∷ []) [] t lt;
      within = omega (arith, ap length e, length_push rows row);
      only = λ u h. let P : List ℕ → Type 0 = λ r. Has r u in is.only u (subst P last h);
      all = λ u t h leads. let P : List ℕ → Type 0 = λ r. Has r u in subst P (sym last) (is.all u t h leads);
    }

-- ---- all places

pub rows_none : (into rows : List (List ℕ)) → HaveRows 0 into rows rows []
rows_none into rows = record {
  len = refl;
  longer = omega arith;
  stay = λ t lt. refl;
  within = λ c lt. absurd (omega (arith, lt));
  only = λ c u lt h. absurd (omega (arith, lt));
  all = λ c u t lt h leads. absurd (omega (arith, lt));
}

module _ (n : ℕ) (into old rows new : List (List ℕ)) (numbers : List ℕ) (number : ℕ)
    (have : HaveRows n into old rows numbers) (has : HasRow (get_or into n []) rows new number) (within : (t : ℕ) → Contains (get_or into n []) t → t < length old) where
  abbrev more : List ℕ
  more = numbers ++ number ∷ []

  at_last : get_or more n 0 ≡ number
  at_last = get_or_push numbers number 0 n have.len

  before_last : (c : ℕ) → c < n → get_or more c 0 ≡ get_or numbers c 0
  before_last c lt = get_or_append_left numbers (number ∷ []) 0 c (omega (arith, lt, have.len))

  stays : (t : ℕ) → t < length old → get_or new t [] ≡ get_or old t []
  stays t lt = has.stay t (omega (arith, lt, have.longer)) ∙ have.stay t lt

  same_row : (c u : ℕ) → c < n → get_or new (get_or more c 0) [] ≡ get_or rows (get_or numbers c 0) []
  same_row c u lt = ap (λ k. get_or new k []) (before_last c lt) ∙ has.stay (get_or numbers c 0) (have.within c lt)

  pub rows_more : HaveRows (n + 1) into old new more
  rows_more = record {
    len = length_push numbers number ∙ ap (λ k. k + 1) have.len;
    longer = omega (arith, have.longer, has.longer);
    stay = stays;
    within = λ c lt. elim (cases_eq c n) [
      | inl is ↦ let P : ℕ → Type 0 = λ k. get_or more k 0 < length new in subst P (sym is) (omega (arith, at_last, has.within))
      | inr other ↦ let le : c < n = omega (arith, lt, other) in omega (arith, before_last c le, have.within c le, has.longer)
    ];
    only = λ c u lt h. elim (cases_eq c n) [
      | inl is ↦
          let P : ℕ → Type 0 = λ k. Leads new u (get_or more k 0) in
          let Q : ℕ → Type 0 = λ k. Leads new u k in
          let R : ℕ → Type 0 = λ k. (t : ℕ) × Contains (get_or into k []) t × Leads old u t in
          let found = has.only u (subst Q at_last (subst P is h)) in
          let S : List ℕ → Type 0 = λ row. Has row u in
          subst R (sym is) (found.0, found.1, subst S (have.stay found.0 (within found.0 found.1)) found.2)
      | inr other ↦
          let le : c < n = omega (arith, lt, other) in
          let S : List ℕ → Type 0 = λ row. Has row u in
          have.only c u le (subst S (same_row c u le) h)
    ];
    all = λ c u t lt h leads. elim (cases_eq c n) [
      | inl is ↦
          let P : ℕ → Type 0 = λ k. Leads new u (get_or more k 0) in
          let Q : ℕ → Type 0 = λ k. Leads new u k in
          let R : ℕ → Type 0 = λ k. Contains (get_or into k []) t in
          let S : List ℕ → Type 0 = λ row. Has row u in
          let there = subst R is h in
          subst P (sym is) (subst Q (sym at_last) (has.all u t there (subst S (sym (have.stay t (within t there))) leads)))
      | inr other ↦
          let le : c < n = omega (arith, lt, other) in
          let S : List ℕ → Type 0 = λ row. Has row u in
          subst S (sym (same_row c u le)) (have.all c u t le h leads)
    ];
  }
