-- A list whose numbers climb: those below a number, and those at it.
use Rattle.std.proofs.Common.{◌≡◌, ◌∙◌, ◌≤◌, ◌<◌, ◌+◌, ◌==◌, ◌++◌, ◌∷◌, [], ℕ, Bool, true, false, List, T, Ordering, ap, arith, cond, if◌then◌else◌, inl, inr, refl, subst, sym}
use Rattle.std.proofs.lemmas.Bool.{eq-eqb, eqb-true, le-ltb, lt-ltb, ltb-false, ltb-true, ne_eqb}
use Rattle.std.specs.FinMap.Entries.{below_all, is_sorted}
use Rattle.std.specs.Ordering.{is_lt, nat_cmp, ordering_then}
use Rattle.std.specs.Prelude.{filter, nat_lt}
use Rattle.std.specs.declared.cmp.Ordering.TheVariants.{Equal, Greater, Less}
use Rattle.yw_base.specs.Identity.{case_number}
use Rattle.yw_sites.proofs.Picked.{halves}
use Rattle.yw_sites.specs.Entries.{Entry}
use Rattle.yw_sites.specs.Idents.{Each}
use Rattle.yw_state.proofs.Entries.{IsIn}
use Rattle.yw_state.proofs.Tests.{by_test, never}
use Rattle.yw_state.specs.Identity.{Ident}
use Rattle.yw_state.specs.Map.{lexical}

abbrev put_if : {E : Type 0} → Bool → E → List E → List E
put_if b e es = if b then e ∷ es else es

module _ {E : Type 0} (num : E → ℕ) where
  -- none has a lesser number than one before it
  abbrev pub Climbs : List E → Type 0
  Climbs [] = Unit {0}
  Climbs (e ∷ es) = Each (λ (f : E). num e ≤ num f) es × Climbs es

  abbrev pub lower : ℕ → List E → List E
  lower n es = filter (λ (e : E). nat_lt (num e) n) es

  abbrev pub level : ℕ → List E → List E
  level n es = filter (λ (e : E). num e == n) es

  pub none_lower : (n : ℕ) (es : List E) → Each (λ (f : E). n ≤ num f) es → lower n es ≡ []
  none_lower n [] h = refl
  none_lower n (e ∷ es) h = ap (λ b. put_if b e (lower n es)) (le-ltb (num e) n h.0) ∙ none_lower n es h.1

  pub all_lower : (n : ℕ) (es : List E) → Each (λ (f : E). num f < n) es → lower n es ≡ es
  all_lower n [] h = refl
  all_lower n (e ∷ es) h = ap (λ b. put_if b e (lower n es)) (lt-ltb (num e) n h.0) ∙ ap (λ z. e ∷ z) (all_lower n es h.1)

  pub none_level : (n : ℕ) (es : List E) → Each (λ (f : E). n < num f) es → level n es ≡ []
  none_level n [] h = refl
  none_level n (e ∷ es) h =
      ap (λ b. put_if b e (level n es)) (ne_eqb (num e) n (λ same. absurd (omega (arith, h.0, same)))) ∙ none_level n es h.1

  from_on : (n m : ℕ) (es : List E) → n ≤ m → Each (λ (f : E). m ≤ num f) es → Each (λ (f : E). n ≤ num f) es
  from_on n m [] le h = tt
  from_on n m (e ∷ es) le h = let first : m ≤ num e = h.0 in (omega (arith, le, first), from_on n m es le h.1)

  pub less_on : (n m : ℕ) (es : List E) → m ≤ n → Each (λ (f : E). num f < m) es → Each (λ (f : E). num f < n) es
  less_on n m [] le h = tt
  less_on n m (e ∷ es) le h = let lt : num e < m = h.0 in (omega (arith, le, lt), less_on n m es le h.1)

  -- where the first is lower
  with_lower : (n : ℕ) (e : E) (es : List E) → num e < n → lower (n + 1) es ≡ lower n es ++ level n es
      → lower (n + 1) (e ∷ es) ≡ lower n (e ∷ es) ++ level n (e ∷ es)
  with_lower n e es lt rest =
      ap (λ b. put_if b e (lower (n + 1) es)) (lt-ltb (num e) (n + 1) (omega (arith, lt))) ∙ ap (λ z. e ∷ z) rest
      ∙ sym (ap (λ b. put_if b e (lower n es) ++ level n (e ∷ es)) (lt-ltb (num e) n lt)
      ∙ ap (λ b. (e ∷ lower n es) ++ put_if b e (level n es)) (ne_eqb (num e) n (λ same. absurd (omega (arith, lt, same)))))

  -- where it is at the number, and so no further one is lower
  with_level : (n : ℕ) (e : E) (es : List E) → num e ≡ n → lower n es ≡ [] → lower (n + 1) es ≡ lower n es ++ level n es
      → lower (n + 1) (e ∷ es) ≡ lower n (e ∷ es) ++ level n (e ∷ es)
  with_level n e es same none rest =
      ap (λ b. put_if b e (lower (n + 1) es)) (lt-ltb (num e) (n + 1) (omega (arith, same)))
      ∙ ap (λ z. e ∷ z) (rest ∙ ap (λ z. z ++ level n es) none)
      ∙ sym (ap (λ b. put_if b e (lower n es) ++ level n (e ∷ es)) (le-ltb (num e) n (omega (arith, same)))
      ∙ ap (λ z. z ++ level n (e ∷ es)) none ∙ ap (λ b. put_if b e (level n es)) (eq-eqb (num e) n same))

  -- where it is higher
  with_higher : (n : ℕ) (e : E) (es : List E) → n < num e → lower (n + 1) es ≡ lower n es ++ level n es
      → lower (n + 1) (e ∷ es) ≡ lower n (e ∷ es) ++ level n (e ∷ es)
  with_higher n e es lt rest =
      ap (λ b. put_if b e (lower (n + 1) es)) (le-ltb (num e) (n + 1) (omega (arith, lt))) ∙ rest
      ∙ sym (ap (λ b. put_if b e (lower n es) ++ level n (e ∷ es)) (le-ltb (num e) n (omega (arith, lt)))
      ∙ ap (λ b. lower n es ++ put_if b e (level n es)) (ne_eqb (num e) n (λ same. absurd (omega (arith, lt, same)))))

  -- behind those below a number come those at it
  pub next_level : (n : ℕ) (es : List E) → Climbs es → lower (n + 1) es ≡ lower n es ++ level n es
  next_level n [] h = refl
  next_level n (e ∷ es) h =
      let rest = next_level n es h.1 in
      by_test (nat_lt (num e) n)
      (λ t. with_lower n e es (ltb-true (num e) n t) rest)
      (λ f.
      let from : n ≤ num e = ltb-false (num e) n f in
      by_test (num e == n)
      (λ t. let same : num e ≡ n = eqb-true (num e) n t in with_level n e es same (none_lower n es (from_on n (num e) es from h.0)) rest)
      (λ g. with_higher n e es (higher (num e) from g) rest))
    where
      higher : (m : ℕ) → n ≤ m → (m == n) ≡ false → n < m
      higher m from g =
          by_test (nat_lt n m) (λ t. ltb-true n m t)
          (λ f. let to : m ≤ n = ltb-false n m f in never (sym g ∙ eq-eqb m n (omega (arith, from, to))))

-- ---- the numbers of sorted keys climb

pub lt_is : (a b : ℕ) → T (is_lt (nat_cmp a b)) → a < b
lt_is a b h =
    by_test (nat_lt a b) (λ t. ltb-true a b t)
    (λ f. absurd (not_less (a == b) (subst (λ (x : Bool). T (is_lt (cond x Less (cond (a == b) Equal Greater)))) f h)))
  where
    not_less : (x : Bool) → T (is_lt (cond x Equal Greater)) → ⊥
    not_less x = elim x as (λ (y : Bool). T (is_lt (cond y Equal Greater)) → ⊥) [ true ↦ λ h. h | false ↦ λ h. h ]

first_le : (a b : ℕ) (rest : Ordering) → T (is_lt (ordering_then (nat_cmp a b) rest)) → a ≤ b
first_le a b rest h =
    by_test (nat_lt a b) (λ t. let lt : a < b = ltb-true a b t in omega (arith, lt))
    (λ f.
    by_test (a == b) (λ e. omega (arith, eqb-true a b e))
    (λ n. absurd (subst (λ (o : Ordering). T (is_lt (ordering_then o rest)))
    (ap (λ (x : Bool). cond x Less (cond (a == b) Equal Greater)) f ∙ ap (λ (x : Bool). cond x Equal Greater) n) h)))

numbers_climb : (j k : Ident) → T (is_lt (lexical j k)) → case_number j ≤ case_number k
numbers_climb [] k h = omega arith
numbers_climb (a ∷ j) [] h = absurd h
numbers_climb (a ∷ j) (b ∷ k) h = first_le a b (lexical j k) h

-- ---- of what stands, by the numbers of cases

abbrev pub of_entry : Entry → ℕ
of_entry e = case_number e.0

above_climbs : (k : Ident) (es : List Entry) → T (below_all lexical k es) → Each (λ (f : Entry). case_number k ≤ of_entry f) es
above_climbs k [] h = tt
above_climbs k (e ∷ es) h =
    let p = halves (is_lt (lexical k e.0)) (below_all lexical k es) h in (numbers_climb k e.0 p.0, above_climbs k es p.1)

pub entries_climb : (es : List Entry) → T (is_sorted lexical es) → Climbs of_entry es
entries_climb [] h = tt
entries_climb (e ∷ es) h =
    let p = halves (below_all lexical e.0 es) (is_sorted lexical es) h in (above_climbs e.0 es p.0, entries_climb es p.1)

-- ---- of what stands under numbers

module _ {X : Type 0} where
  abbrev pub of_number : ℕ × X → ℕ
  of_number e = e.0

  pub above_number : (k : ℕ) (es : List (ℕ × X)) → T (below_all nat_cmp k es) → Each (λ (f : ℕ × X). k < of_number f) es
  above_number k [] h = tt
  above_number k (e ∷ es) h =
      let p = halves (is_lt (nat_cmp k e.0)) (below_all nat_cmp k es) h in (lt_is k e.0 p.0, above_number k es p.1)

  no_less : (k : ℕ) (es : List (ℕ × X)) → Each (λ (f : ℕ × X). k < of_number f) es → Each (λ (f : ℕ × X). k ≤ of_number f) es
  no_less k [] h = tt
  no_less k (e ∷ es) h = let lt : k < of_number e = h.0 in (omega (arith, lt), no_less k es h.1)

  pub numbered_climb : (es : List (ℕ × X)) → T (is_sorted nat_cmp es) → Climbs of_number es
  numbered_climb [] h = tt
  numbered_climb (e ∷ es) h =
      let p = halves (below_all nat_cmp e.0 es) (is_sorted nat_cmp es) h in
      (no_less e.0 es (above_number e.0 es p.0), numbered_climb es p.1)

-- ---- what is so of each element

pub each_element : {E : Type 0} (Q : E → Type 0) (es : List E) → ((e : E) → IsIn es e → Q e) → Each Q es
each_element Q [] all = tt
each_element Q (e ∷ es) all = (all e (inl refl), each_element Q es (λ d within. all d (inr within)))
