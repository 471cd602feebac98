-- Work is held exactly where a front is marked and no run stands at a longer one.
use Rattle.std.specs.Prelude.{◌≡◌, ◌⊎◌, ℕ, ◌==◌, ◌&&◌, Bool, true, false, not, [], ◌∷◌, Option, is_some, option_and_then, refl}
use Rattle.std.proofs.Common.{sym, ◌∙◌, ap, subst, inl, inr}
use Rattle.std.proofs.lemmas.Bool.{and_parts, and_from, eqb-true, eq-eqb, and_right, false_from_ne_true}
use Rattle.yw_base.specs.Identity.{under}
use Rattle.yw_state.proofs.Clear.{some_stands}
use Rattle.yw_state.proofs.Entries.{find-entry, passing}
use Rattle.yw_state.proofs.MapLemmas.{by_name}
use Rattle.yw_state.proofs.Tests.{by_test, is_not, never, then_some, there, there_and}
use Rattle.yw_state.specs.Identity.{Ident, same, strictly_under}
use Rattle.yw_state.specs.Map.{entries, get}
use Rattle.yw_state.specs.Options.{is_some_and}
use Rattle.yw_state.specs.State.{Site, State, is_suspended, run_part}
use Rattle.yw_state.specs.Well.{Stands}
use Rattle.yw_state.specs.Words.{held, shielded}
use Rattle.yw_work.specs.Holds.{goes_on, has_run, held_on}

-- no run stands on the way down to j, from its first number on
abbrev NoRun : (Ident → Bool) → Ident → Type 0
NoRun runs j = (q : Ident) → under j q ≡ true → runs q ≡ true → ⊥

-- A front is marked, and no run stands at a longer one.
record MarkHolds (marks runs : Ident → Bool) (j : Ident) : Type 0 where
  top : Ident
  front : under j top ≡ true
  marked : marks top ≡ true
  bare : (q : Ident) → strictly_under q top ≡ true → under j q ≡ true → runs q ≡ true → ⊥

abbrev Holds : (Ident → Bool) → (Ident → Bool) → Bool → Ident → Type 0
Holds marks runs above j = ((above ≡ true) × NoRun runs j) ⊎ MarkHolds marks runs j

going : (mark run above : Bool) → goes_on mark run above ≡ true → (mark ≡ true) ⊎ ((above ≡ true) × (run ≡ true → ⊥))
going true run above e = inl refl
going false true true e = never e
going false true false e = never e
going false false true e = inr (refl, λ f. never f)
going false false false e = never e

by_mark : (mark run above : Bool) → mark ≡ true → goes_on mark run above ≡ true
by_mark true run above e = refl
by_mark false run above e = never e

by_above : (mark run above : Bool) → above ≡ true → (run ≡ true → ⊥) → goes_on mark run above ≡ true
by_above true run above e none = refl
by_above false true above e none = absurd (none refl)
by_above false false true e none = refl
by_above false false false e none = never e

same_front : (n m : ℕ) (j q : Ident) → under (n ∷ j) (m ∷ q) ≡ true → (m ≡ n) × (under j q ≡ true)
same_front n m j q e = let parts = and_parts (m == n) (under j q) e in (eqb-true m n parts.0, parts.1)

longer : (n : ℕ) (j q : Ident) → under j q ≡ true → under (n ∷ j) (n ∷ q) ≡ true
longer n j q e = and_from _ _ (eq-eqb n n refl) e

-- strictly under the same with one number in front of both
strictly_longer : (n : ℕ) (q i : Ident) → strictly_under q i ≡ true → strictly_under (n ∷ q) (n ∷ i) ≡ true
strictly_longer n q i e =
    let parts = and_parts (under q i) (not (same q i)) e in
    and_from _ _ (longer n q i parts.0) (ap not (and_right (n == n) (same q i) (is_not (same q i) parts.1)))

second_fails : (a b : Bool) → a ≡ true → (a && b) ≡ false → b ≡ false
second_fails true b is none = none
second_fails false b is none = never is

strictly_shorter : (n m : ℕ) (q i : Ident) → strictly_under (m ∷ q) (n ∷ i) ≡ true → strictly_under q i ≡ true
strictly_shorter n m q i e =
    let parts = and_parts (under (m ∷ q) (n ∷ i)) (not (same (m ∷ q) (n ∷ i))) e in
    let front = and_parts (n == m) (under q i) parts.0 in
    and_from _ _ front.1 (ap not (second_fails (m == n) (same q i) (eq-eqb m n (sym (eqb-true n m front.0))) (is_not (same (m ∷ q) (n ∷ i)) parts.1)))

to_holds : (j : Ident) (marks runs : Ident → Bool) (above : Bool) → held_on marks runs above j ≡ true → Holds marks runs above j
to_holds [] marks runs above e = elim (going (marks []) (runs []) above e) [
  | inl mark ↦ inr (record { top = []; front = refl; marked = mark; bare = nothing_below })
  | inr free ↦ inl (free.0, no_run free.1)
]
  where
    nothing_below : (q : Ident) → strictly_under q [] ≡ true → under [] q ≡ true → runs q ≡ true → ⊥
    nothing_below [] strict at run = never strict
    nothing_below (m ∷ q) strict at run = never at

    no_run : (runs [] ≡ true → ⊥) → NoRun runs []
    no_run none [] at run = none run
    no_run none (m ∷ q) at run = never at
to_holds (n ∷ j) marks runs above e = elim (to_holds j (λ i. marks (n ∷ i)) (λ i. runs (n ∷ i)) (goes_on (marks []) (runs []) above) e) [
  | inl from_above ↦ elim (going (marks []) (runs []) above from_above.0) [
    | inl mark ↦ inr (record { top = []; front = refl; marked = mark; bare = below_top from_above.1 })
    | inr free ↦ inl (free.0, no_run from_above.1 free.1)
  ]
  | inr holds ↦ inr (record { top = n ∷ holds.top; front = longer n j holds.top holds.front; marked = holds.marked; bare = below holds })
]
  where
    below_top : NoRun (λ i. runs (n ∷ i)) j → (q : Ident) → strictly_under q [] ≡ true → under (n ∷ j) q ≡ true → runs q ≡ true → ⊥
    below_top none [] strict at run = never strict
    below_top none (m ∷ q) strict at run = let f = same_front n m j q at in none q f.1 (subst (λ (k : ℕ). runs (k ∷ q) ≡ true) f.0 run)

    no_run : NoRun (λ i. runs (n ∷ i)) j → (runs [] ≡ true → ⊥) → NoRun runs (n ∷ j)
    no_run none here [] at run = here run
    no_run none here (m ∷ q) at run = let f = same_front n m j q at in none q f.1 (subst (λ (k : ℕ). runs (k ∷ q) ≡ true) f.0 run)

    below : (h : MarkHolds (λ i. marks (n ∷ i)) (λ i. runs (n ∷ i)) j) → (q : Ident) → strictly_under q (n ∷ h.top) ≡ true → under (n ∷ j) q ≡ true
        → runs q ≡ true → ⊥
    below h [] strict at run = never strict
    below h (m ∷ q) strict at run =
        let f = same_front n m j q at in h.bare q (strictly_shorter n m q h.top strict) f.1 (subst (λ (k : ℕ). runs (k ∷ q) ≡ true) f.0 run)

from_holds : (j : Ident) (marks runs : Ident → Bool) (above : Bool) → Holds marks runs above j → held_on marks runs above j ≡ true
from_holds [] marks runs above (inl from_above) = by_above (marks []) (runs []) above from_above.0 (from_above.1 [] refl)
from_holds [] marks runs above (inr holds) = by_mark (marks []) (runs []) above (at_end holds.top holds.front holds.marked)
  where
    at_end : (q : Ident) → under [] q ≡ true → marks q ≡ true → marks [] ≡ true
    at_end [] at mark = mark
    at_end (m ∷ q) at mark = never at
from_holds (n ∷ j) marks runs above (inl from_above) =
    from_holds j (λ i. marks (n ∷ i)) (λ i. runs (n ∷ i)) (goes_on (marks []) (runs []) above)
    (inl (by_above (marks []) (runs []) above from_above.0 (from_above.1 [] refl), λ q at run. from_above.1 (n ∷ q) (longer n j q at) run))
from_holds (n ∷ j) marks runs above (inr holds) =
    from_holds j (λ i. marks (n ∷ i)) (λ i. runs (n ∷ i)) (goes_on (marks []) (runs []) above) (at_top holds.top holds.front holds.marked holds.bare)
  where
    at_top : (top : Ident) → under (n ∷ j) top ≡ true → marks top ≡ true
        → ((q : Ident) → strictly_under q top ≡ true → under (n ∷ j) q ≡ true → runs q ≡ true → ⊥)
        → Holds (λ i. marks (n ∷ i)) (λ i. runs (n ∷ i)) (goes_on (marks []) (runs []) above) j
    at_top [] front mark bare = inl (by_mark (marks []) (runs []) above mark, λ q at run. bare (n ∷ q) refl (longer n j q at) run)
    at_top (m ∷ top) front mark bare =
        let f = same_front n m j top front in
        inr (record {
          top = top;
          front = f.1;
          marked = subst (λ (k : ℕ). marks (k ∷ top) ≡ true) f.0 mark;
          bare =
              λ q strict at run. bare (n ∷ q) (subst (λ (k : ℕ). strictly_under (n ∷ q) (k ∷ top) ≡ true) (sym f.0) (strictly_longer n q top strict))
              (longer n j q at) run;
        })

-- ---- of a state

module _ (s : State) (j : Ident) where
  run_there : (q : Ident) (x : Site) → Stands s q x → is_some x.run ≡ true → has_run s q ≡ true
  run_there q x stands run = ap (λ (o : Option Site). is_some (option_and_then (λ (y : Site). y.run) o)) stands ∙ run

  mark_there : (q : Ident) (x : Site) → Stands s q x → x.suspended ≡ true → is_suspended s q ≡ true
  mark_there q x stands mark = ap (λ (o : Option Site). is_some_and o (λ (y : Site). y.suspended)) stands ∙ mark

  shields : (top q : Ident) → strictly_under q top ≡ true → under j q ≡ true → has_run s q ≡ true → shielded s j top ≡ true
  shields top q strict at run =
      let (r, has) = there (run_part s q) run in
      let (x, stands, its) = then_some (λ (y : Site). y.run) (get s.sites q) r has in
      some_stands s (λ k y. is_some y.run && strictly_under k top && under j k) q x stands (and_from _ _ (and_from _ _ (ap is_some its) strict) at)

  holds_of : held s j ≡ true → Holds (is_suspended s) (has_run s) false j
  holds_of e =
      let (f, within, is) = passing (λ (f : _). f.1.suspended && under j f.0 && not (shielded s j f.0)) (entries s.sites) e in
      let parts = and_parts (f.1.suspended && under j f.0) (not (shielded s j f.0)) is in
      let two = and_parts f.1.suspended (under j f.0) parts.0 in
      let stands : Stands s f.0 f.1 = find-entry by_name (entries s.sites) f s.sites.sorted within in
      inr (record {
        top = f.0;
        front = two.1;
        marked = mark_there f.0 f.1 stands two.0;
        bare = λ q strict at run. never (sym (is_not _ parts.1) ∙ shields f.0 q strict at run);
      })

  held_of : Holds (is_suspended s) (has_run s) false j → held s j ≡ true
  held_of (inl from_above) = never from_above.0
  held_of (inr holds) =
      let (x, stands, mark) = there_and (get s.sites holds.top) (λ (y : Site). y.suspended) holds.marked in
      some_stands s (λ i y. y.suspended && under j i && not (shielded s j i)) holds.top x stands
      (and_from _ _ (and_from _ _ mark holds.front) (ap not (false_from_ne_true (shielded s j holds.top) open_shield)))
    where
      open_shield : shielded s j holds.top ≡ true → ⊥
      open_shield e =
          let (f, within, is) = passing (λ (f : _). is_some f.1.run && strictly_under f.0 holds.top && under j f.0) (entries s.sites) e in
          let parts = and_parts (is_some f.1.run && strictly_under f.0 holds.top) (under j f.0) is in
          let two = and_parts (is_some f.1.run) (strictly_under f.0 holds.top) parts.0 in
          let stands : Stands s f.0 f.1 = find-entry by_name (entries s.sites) f s.sites.sorted within in
          holds.bare f.0 two.1 parts.1 (run_there f.0 f.1 stands two.0)

  pub held_same : held s j ≡ held_on (is_suspended s) (has_run s) false j
  held_same = by_test (held s j)
      (λ yes. yes ∙ sym (from_holds j (is_suspended s) (has_run s) false (holds_of yes)))
      (λ no. no ∙ sym (false_from_ne_true _ (λ e. never (sym no ∙ held_of (to_holds j (is_suspended s) (has_run s) false e)))))
