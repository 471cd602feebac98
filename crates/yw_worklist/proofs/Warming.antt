-- Where an event may change what is open, and what is above that.
use Rattle.std.proofs.Common.{ap, arith, inl, inr, refl, subst, sym, take, ◌∙◌}
use Rattle.std.proofs.Math.Bool.{or-false}
use Rattle.std.proofs.lemmas.Bool.{and_from, and_parts, cases_lt, eq-eqb, eqb-true, ltb-true, or_left, or_right}
use Rattle.std.proofs.lemmas.List.Folds.{list_all-append, list_any-append}
use Rattle.std.proofs.lemmas.List.FromFn.{map-range_with_len_more}
use Rattle.std.proofs.lemmas.Slice.Eq.{bytes_eq-Decides}
use Rattle.std.specs.BTreeSet.{BTreeSet, Updates, contains}
use Rattle.std.specs.List.{list_all, list_any, range_with_len}
use Rattle.std.specs.Ordering.{eq_by_cmp}
use Rattle.std.specs.Prelude.{◌≡◌, ◌⊎◌, ◌==◌, ◌+◌, ◌<◌, ◌≤◌, ◌^◌, ◌&&◌, ◌||◌, ◌++◌, [], ◌∷◌, ℕ, zero, suc, Bool, cond, false, length, List, map, nat_lt, None, Option, Some, SomeIff, true}
use Rattle.yw_base.specs.Identity.{is_identity, is_number, number_end, child, parent, under}
use Rattle.yw_idle.specs.Warms.{warms}
use Rattle.yw_invariant.proofs.Children.{parent_child}
use Rattle.yw_invariant.proofs.Places.{under_parent}
use Rattle.yw_sites.specs.Idents.{Each}
use Rattle.yw_sites.proofs.Prefix.{under_length, under_refl, under_same, under_trans}
use Rattle.yw_state.proofs.Tests.{never, or_cases}
use Rattle.yw_state.specs.Exlets.{case_above}
use Rattle.yw_state.specs.Identity.{Ident, case_ident, same}
use Rattle.yw_state.specs.Map.{lexical}
use Rattle.yw_state.specs.Options.{is_some_and}
use Rattle.yw_state.specs.declared.event.Event.{Event}
use Rattle.yw_state.specs.declared.event.Event.TheVariants as events
use Rattle.yw_worklist.proofs.Keys.{tied_same}
use Rattle.yw_worklist.specs.Touched.{Adds, changed_at, fronts, is_around, is_made}

abbrev pub Ids : Type 0
Ids = BTreeSet Ident

-- ---- one after another

pub nothing_more : (ids : Ids) (also : Ident → Bool) → ((j : Ident) → is_identity j ≡ true → also j ≡ false) → Adds ids ids also
nothing_more ids also none = record { was = λ j e. e; passing = λ j identity e. never (sym (none j identity) ∙ e) }

pub then_adds : (old mid new : Ids) (p q : Ident → Bool) → Adds old mid p → Adds mid new q → Adds old new (λ j. p j || q j)
then_adds old mid new p q first second = record {
  was = λ j e. second.was j (first.was j e);
  passing = λ j identity e. elim (or_cases (p j) (q j) e) [
    | inl here ↦ second.was j (first.passing j identity here)
    | inr there ↦ second.passing j identity there
  ];
}

-- by another test that only those pass
pub as_adds : (old new : Ids) (p q : Ident → Bool) → Adds old new p → ((j : Ident) → is_identity j ≡ true → q j ≡ true → p j ≡ true) → Adds old new q
as_adds old new p q adds implies = record { was = adds.was; passing = λ j identity e. adds.passing j identity (implies j identity e) }

cond_or : (b c : Bool) → cond b true c ≡ (b || c)
cond_or true c = refl
cond_or false c = refl

pub one_added : (old new : Ids) (key id : Ident) → key ≡ id → Updates lexical old new key true → Adds old new (λ j. same j id)
one_added old new key id is updates =
    let at : (j : Ident) → contains lexical new j ≡ (same j id || contains lexical old j) =
    λ j. updates.0 j ∙ cond_or (eq_by_cmp lexical key j) (contains lexical old j) ∙ ap (λ b. b || contains lexical old j) (tied_same key j)
    ∙ ap (λ k. same j k || contains lexical old j) is in
    record {
      was = λ j e. at j ∙ or_right (same j id) (contains lexical old j) e;
      passing = λ j identity e. at j ∙ or_left (same j id) (contains lexical old j) e;
    }

-- what is no identity needn't be there
pub no_identity : (ids : Ids) (id : Ident) → (is_identity id ≡ true → ⊥) → Adds ids ids (λ j. same j id)
no_identity ids id none = record {
  was = λ j e. e;
  passing = λ j identity e. absurd (none (subst (λ i. is_identity i ≡ true) ((bytes_eq-Decides j id).0 e) identity));
}

-- where an identity is found exactly where it is one
pub found_added : (old new : Ids) (found : Option Ident) (x : Ident) → found ≡ Some x → Adds old new (λ j. same j x) → (id : Ident)
    → SomeIff found (is_identity id ≡ true) id → Adds old new (λ j. same j id)
found_added old new found x is adds id iff =
    subst (λ (i : Ident). Adds old new (λ j. same j i)) (subst (λ o. SomeIff o (is_identity id ≡ true) id) is iff).1 adds

pub none_added : (ids : Ids) (found : Option Ident) → found ≡ None → (id : Ident) → SomeIff found (is_identity id ≡ true) id → Adds ids ids (λ j. same j id)
none_added ids found is id iff = no_identity ids id (subst (λ o. SomeIff o (is_identity id ≡ true) id) is iff)

-- ---- several, by their numbers

module _ (f : ℕ → Ident) (first : ℕ) where
  abbrev pub is_so_far : ℕ → Ident → Bool
  is_so_far k j = list_any (same j) (map f (range_with_len first k))

  pub none_so_far : (ids : Ids) → Adds ids ids (is_so_far 0)
  none_so_far ids = record { was = λ j e. e; passing = λ j identity e. never e }

  apart : (k next : ℕ) → next ≡ first + k → (j : Ident) → is_so_far (k + 1) j ≡ (is_so_far k j || same j (f next))
  apart k next is j =
      ap (list_any (same j)) (map-range_with_len_more f first k next (sym is))
      ∙ list_any-append (same j) (map f (range_with_len first k)) (f next ∷ [])
      ∙ ap (λ b. is_so_far k j || b) (or-false (same j (f next)))

  pub one_more_added : (old mid new : Ids) (k next : ℕ) → next ≡ first + k → Adds old mid (is_so_far k) → Adds mid new (λ j. same j (f next))
      → Adds old new (is_so_far (k + 1))
  one_more_added old mid new k next is those that =
      as_adds old new (λ j. is_so_far k j || same j (f next)) (is_so_far (k + 1))
      (then_adds old mid new (is_so_far k) (λ j. same j (f next)) those that) (λ j identity e. sym (apart k next is j) ∙ e)

-- a number past 64 bits is in no identity
pub too_large : (net : Ident) (number : ℕ) → ¬ (number < 2 ^ 64) → ¬ (is_identity (child net number) ≡ true)
too_large net number large identity =
    let all = and_parts _ (list_all is_number (net ++ number ∷ [])) identity in
    let last = and_parts (list_all is_number net) (is_number number && true) (sym (list_all-append is_number net (number ∷ [])) ∙ all.1) in
    let number_is = and_parts (is_number number) true last.1 in
    let small : number < number_end = ltb-true number number_end (and_parts (nat_lt 0 number) (nat_lt number number_end) number_is.0).1 in
    large (omega (arith, small))

-- ---- what lies on the way down to a run

front_is : (j r : Ident) → under r j ≡ true → j ≡ take (length j) r
front_is [] r e = refl
front_is (n ∷ j) [] e = never e
front_is (n ∷ j) (m ∷ r) e =
    let parts = and_parts (n == m) (under r j) e in
    ap (λ k. k ∷ j) (eqb-true n m parts.0) ∙ ap (λ z. m ∷ z) (front_is j r parts.1)

among_so_far : (f : ℕ → Ident) (m k : ℕ) → k < m → (j : Ident) → j ≡ f k → is_so_far f 0 m j ≡ true
among_so_far f zero k lt j is = absurd (omega (arith, lt))
among_so_far f (suc m) k lt j is =
    let next : m ≡ 0 + m = omega arith in
    let more : m + 1 ≡ suc m = omega arith in
    subst (λ n. is_so_far f 0 n j ≡ true) more (apart f 0 m m next j ∙ elim (cases_lt k m) [
      | inl before ↦ or_left (is_so_far f 0 m j) (same j (f m)) (among_so_far f m k before j is)
      | inr last ↦
          let this : k ≡ m = omega (arith, lt, last) in
          or_right (is_so_far f 0 m j) (same j (f m)) ((bytes_eq-Decides j (f m)).1 (is ∙ ap f this))
    ])

fronts_have : (r j : Ident) → under r j ≡ true → (same j r ≡ true) ⊎ (list_any (same j) (fronts r) ≡ true)
fronts_have r j e =
    let short : length j ≤ length r = under_length r j e in
    elim (cases_lt (length j) (length r)) [
      | inl lt ↦ inr (among_so_far (λ k. take k r) (length r) (length j) lt j (front_is j r e))
      | inr ge ↦
          let long : length j ≡ length r = omega (arith, short, ge) in
          inl ((bytes_eq-Decides j r).1 (under_same r j r long e (under_refl r)))
    ]

under_nothing : (r : Ident) → under r [] ≡ true
under_nothing [] = refl
under_nothing (n ∷ r) = refl

under_case : (r : Ident) → is_identity (case_above r) ≡ true → under r (case_above r) ≡ true
under_case [] identity = never identity
under_case (n ∷ r) identity = and_from (n == n) (under r []) (eq-eqb n n refl) (under_nothing r)

above_case : (r : Ident) → under r (parent (case_above r)) ≡ true
above_case r = under_nothing r

any_way : (r j : Ident) (xs : List Ident) → is_identity j ≡ true → Each (λ x. is_identity x ≡ true → under r x ≡ true) xs → list_any (same j) xs ≡ true
    → under r j ≡ true
any_way r j [] identity each e = never e
any_way r j (x ∷ xs) identity each e = elim (or_cases (same j x) (list_any (same j) xs) e) [
  | inl here ↦
      let is : j ≡ x = (bytes_eq-Decides j x).0 here in
      subst (λ i. under r i ≡ true) (sym is) (each.0 (subst (λ i. is_identity i ≡ true) is identity))
  | inr rest ↦ any_way r j xs identity each.1 rest
]

module _ (r : Ident) where
  first_above : under r (parent r) ≡ true
  first_above = under_parent r

  second_above : under r (parent (parent r)) ≡ true
  second_above = under_trans r (parent r) (parent (parent r)) first_above (under_parent (parent r))

  third_above : under r (parent (parent (parent r))) ≡ true
  third_above = under_trans r (parent (parent r)) (parent (parent (parent r))) second_above (under_parent (parent (parent r)))

  pub step_way : (j : Ident) → is_identity j ≡ true
      → list_any (same j) (r ∷ parent r ∷ case_above r ∷ parent (parent r) ∷ parent r ∷ parent (parent r) ∷ parent (case_above r) ∷ parent (parent (parent r)) ∷ []) ≡ true
      → under r j ≡ true
  step_way j identity e =
      any_way r j (r ∷ parent r ∷ case_above r ∷ parent (parent r) ∷ parent r ∷ parent (parent r) ∷ parent (case_above r) ∷ parent (parent (parent r)) ∷ []) identity (
        (λ i. under_refl r),
        (
          (λ i. first_above),
          (
            under_case r,
            (
              (λ i. second_above),
              ((λ i. first_above), ((λ i. second_above), ((λ i. above_case r), ((λ i. third_above), tt)))),
            ),
          ),
        ),
      )
      e

  pub end_way : (j : Ident) → is_identity j ≡ true → list_any (same j) (r ∷ parent r ∷ parent r ∷ parent (parent r) ∷ []) ≡ true → under r j ≡ true
  end_way j identity e =
      any_way r j (r ∷ parent r ∷ parent r ∷ parent (parent r) ∷ []) identity
      ((λ i. under_refl r), ((λ i. first_above), ((λ i. first_above), ((λ i. second_above), tt)))) e

  way_made : (j : Ident) → under r j ≡ true → (list_any (same j) (fronts r) || is_around j r) ≡ true
  way_made j e = elim (fronts_have r j e) [
    | inl here ↦ or_right (list_any (same j) (fronts r)) (is_around j r) (or_left (same j r) (same j (parent r)) here)
    | inr front ↦ or_left (list_any (same j) (fronts r)) (is_around j r) front
  ]

-- ---- any event

around_one : (a b : Bool) → (a || (b || false)) ≡ true → (a || b) ≡ true
around_one true b e = refl
around_one false b e = sym (or-false b) ∙ e

parents_same : (i j : Ident) (ks : List ℕ) → list_any (same j) (map parent (map (child i) ks)) ≡ true → same j i ≡ true
parents_same i j [] e = never e
parents_same i j (k ∷ ks) e = elim (or_cases (same j (parent (child i k))) (list_any (same j) (map parent (map (child i) ks))) e) [
  | inl here ↦ ap (same j) (sym (parent_child i k)) ∙ here
  | inr rest ↦ parents_same i j ks rest
]

-- the net, and what comes directly under it
module _ (i j : Ident) (ks : List ℕ) where
  abbrev made : Bool
  made = list_any (same j) (map (child i) ks)

  below_made : (same j i || list_any (same j) (map (child i) ks ++ (parent i ∷ map parent (map (child i) ks)))) ≡ true → (made || is_around j i) ≡ true
  below_made e = elim (or_cases (same j i) (list_any (same j) (map (child i) ks ++ (parent i ∷ map parent (map (child i) ks)))) e) [
    | inl here ↦ or_right made (is_around j i) (or_left (same j i) (same j (parent i)) here)
    | inr rest ↦ elim (or_cases made (list_any (same j) (parent i ∷ map parent (map (child i) ks)))
        (sym (list_any-append (same j) (map (child i) ks) (parent i ∷ map parent (map (child i) ks))) ∙ rest)) [
          | inl come ↦ or_left made (is_around j i) come
          | inr up ↦ elim (or_cases (same j (parent i)) (list_any (same j) (map parent (map (child i) ks))) up) [
            | inl above ↦ or_right made (is_around j i) (or_right (same j i) (same j (parent i)) above)
            | inr theirs ↦ or_right made (is_around j i) (or_left (same j i) (same j (parent i)) (parents_same i j ks theirs))
          ]
        ]
  ]

one_made : (i j : Ident) (n : ℕ)
    → (same j i || list_any (same j) (map (child i) (n ∷ []) ++ (parent i ∷ map parent (map (child i) (n ∷ []))))) ≡ true
    → (same j (child i n) || is_around j i) ≡ true
one_made i j n e = ap (λ b. b || is_around j i) (sym (or-false (same j (child i n)))) ∙ below_made i j (n ∷ []) e

launched : (n : ℕ) (j : Ident) → is_identity j ≡ true → (same j (case_ident n) || (same j [] || false)) ≡ true → (same j (case_ident n) || false) ≡ true
launched n j identity e = elim (or_cases (same j (case_ident n)) (same j [] || false) e) [
  | inl here ↦ or_left (same j (case_ident n)) false here
  | inr none ↦ never (sym (ap is_identity ((bytes_eq-Decides j []).0 (sym (or-false (same j [])) ∙ none))) ∙ identity)
]

warm_is : (e : Event) (j : Ident) → is_identity j ≡ true → list_any (same j) (warms e) ≡ true → (is_made e j || is_some_and (changed_at e) (is_around j)) ≡ true
warm_is (events.Launch n spec vals) j identity w = launched n j identity w
warm_is (events.Enter i t places first count) j identity w = below_made i j (range_with_len first count) w
warm_is (events.Add i t value n) j identity w = one_made i j n w
warm_is (events.Except i check node n) j identity w = one_made i j n w
warm_is (events.Raise i kind node n) j identity w = one_made i j n w
warm_is (events.Prim r p) j identity w = way_made r j (step_way r j identity w)
warm_is (events.Compensated r) j identity w = way_made r j (end_way r j identity w)
warm_is (events.Start i who) j identity w = around_one (same j i) (same j (parent i)) w
warm_is (events.Complete i out) j identity w = around_one (same j i) (same j (parent i)) w
warm_is (events.Exit i t places) j identity w = around_one (same j i) (same j (parent i)) w
warm_is (events.StartSub i) j identity w = around_one (same j i) (same j (parent i)) w
warm_is (events.CompleteSub i) j identity w = around_one (same j i) (same j (parent i)) w
warm_is (events.CompleteEmpty i) j identity w = around_one (same j i) (same j (parent i)) w
warm_is (events.Pass i check) j identity w = around_one (same j i) (same j (parent i)) w
warm_is (events.Substitute i worklet) j identity w = around_one (same j i) (same j (parent i)) w
warm_is (events.CompleteWorklet i) j identity w = around_one (same j i) (same j (parent i)) w
warm_is (events.Suspend i) j identity w = around_one (same j i) (same j (parent i)) w
warm_is (events.Continue i) j identity w = around_one (same j i) (same j (parent i)) w
warm_is e j identity w = never w

pub warm_around : (old mid new : Ids) (e : Event) (at : Ident) → changed_at e ≡ Some at → Adds old mid (is_made e) → Adds mid new (λ j. is_around j at)
    → Adds old new (λ j. list_any (same j) (warms e))
warm_around old mid new e at is made around =
    as_adds old new (λ j. is_made e j || is_around j at) (λ j. list_any (same j) (warms e))
    (then_adds old mid new (is_made e) (λ j. is_around j at) made around)
    (λ j identity w. sym (ap (λ o. is_made e j || is_some_and o (is_around j)) is) ∙ warm_is e j identity w)

pub warm_nowhere : (old new : Ids) (e : Event) → changed_at e ≡ None → Adds old new (is_made e) → Adds old new (λ j. list_any (same j) (warms e))
warm_nowhere old new e is made =
    as_adds old new (is_made e) (λ j. list_any (same j) (warms e)) made
    (λ j identity w. sym (or-false (is_made e j)) ∙ sym (ap (λ o. is_made e j || is_some_and o (is_around j)) is) ∙ warm_is e j identity w)

-- of the same event
pub of_kind : (old new : Ids) (e d : Event) → e ≡ d → Adds old new (is_made d) → Adds old new (is_made e)
of_kind old new e d same_event adds = subst (λ (k : Event). Adds old new (is_made k)) (sym same_event) adds
