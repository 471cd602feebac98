-- What an event changes lies in the case of the identity at which it is done, and so does what lies above that.
use Rattle.std.specs.List.{list_any, range_with_len}
use Rattle.std.specs.Prelude.{◌≡◌, ◌==◌, ◌&&◌, ◌||◌, ◌∷◌, ℕ, [], Bool, IfSome, List, None, Option, Some, false, is_none, map, true}
use Rattle.std.proofs.Common.{ap, inl, inr, refl, subst, sym, ◌∙◌}
use Rattle.std.proofs.Math.Bool.{or-false}
use Rattle.std.proofs.lemmas.Bool.{eqb-true}
use Rattle.std.proofs.lemmas.List.Folds.{list_any-append}
use Rattle.std.proofs.lemmas.Slice.Eq.{bytes_eq-Decides}
use Rattle.yw_base.specs.Identity.{is_identity, case_number, child, parent}
use Rattle.yw_idle.specs.Warms.{changes, warms}
use Rattle.yw_loose.specs.Moved.{MovesWithin, begun_or_over, done_at, exlet_at, is_moved, is_unsettled}
use Rattle.yw_sites.specs.Idents.{Each}
use Rattle.yw_state.proofs.Tests.{and_right, never, nowhere, or_cases}
use Rattle.yw_state.specs.Exlets.{case_above}
use Rattle.yw_state.specs.Identity.{Ident, same}
use Rattle.yw_state.specs.Options.{is_some_and}
use Rattle.yw_state.specs.declared.event.Event.{Event}
use Rattle.yw_state.specs.declared.event.Event.TheVariants as events

-- ---- in one case

-- k lies in the case of i, if it is an identity
abbrev Lies : Ident → Ident → Type 0
Lies i [] = Unit {0}
Lies i (n ∷ k) = n ≡ case_number i

itself : (i : Ident) → Lies i i
itself [] = tt
itself (n ∷ i) = refl

up : (i k : Ident) → Lies i k → Lies i (parent k)
up i [] lies = tt
up i (n ∷ []) lies = tt
up i (n ∷ m ∷ k) lies = lies

below : (i : Ident) (n : ℕ) → is_identity i ≡ true → Lies i (child i n)
below [] n identity = never identity
below (m ∷ i) n identity = refl

its_case : (i : Ident) → Lies i (case_above i)
its_case i = refl

lies_there : (i j : Ident) → Lies i j → is_identity j ≡ true → case_number j ≡ case_number i
lies_there i [] lies identity = never identity
lies_there i (n ∷ j) lies identity = lies

-- ---- lists

items_lie : (i : Ident) (ks : List ℕ) → is_identity i ≡ true → Each (Lies i) (map (child i) ks)
items_lie i [] identity = tt
items_lie i (k ∷ ks) identity = (below i k identity, items_lie i ks identity)

all_up : (i : Ident) (ks : List Ident) → Each (Lies i) ks → Each (Lies i) (map parent ks)
all_up i [] each = tt
all_up i (k ∷ ks) each = (up i k each.0, all_up i ks each.1)

among : (i j : Ident) (ks : List Ident) → Each (Lies i) ks → list_any (same j) ks ≡ true → Lies i j
among i j [] each e = never e
among i j (k ∷ ks) each e = elim (or_cases (same j k) (list_any (same j) ks) e) [
  | inl here ↦ subst (Lies i) (sym ((bytes_eq-Decides j k).0 here)) each.0
  | inr rest ↦ among i j ks each.1 rest
]

-- ---- what an event changes

abbrev LieAll : Event → Ident → Type 0
LieAll e i = is_identity i ≡ true → Each (Lies i) (changes e)

done_lie : (e : Event) → IfSome (done_at e) (LieAll e)
done_lie (events.Enter i t places first count) = λ identity. (itself i, items_lie i (range_with_len first count) identity)
done_lie (events.Add i t value n) = λ identity. (itself i, (below i n identity, tt))
done_lie (events.Start j who) = λ identity. (itself j, tt)
done_lie (events.Complete j out) = λ identity. (itself j, tt)
done_lie (events.Exit i t places) = λ identity. (itself i, tt)
done_lie (events.StartSub j) = λ identity. (itself j, tt)
done_lie (events.CompleteSub j) = λ identity. (itself j, tt)
done_lie (events.CompleteEmpty j) = λ identity. (itself j, tt)
done_lie (events.Suspend j) = λ identity. (itself j, tt)
done_lie e = tt

exlet_lie : (e : Event) → IfSome (exlet_at e) (LieAll e)
exlet_lie (events.Pass j check) = λ identity. (itself j, tt)
exlet_lie (events.Except j check node n) = λ identity. (itself j, (below j n identity, tt))
exlet_lie (events.Substitute j worklet) = λ identity. (itself j, tt)
exlet_lie (events.CompleteWorklet j) = λ identity. (itself j, tt)
exlet_lie (events.Raise j kind node n) = λ identity. (itself j, (below j n identity, tt))
exlet_lie (events.Prim r p) = λ identity. (itself r, (up r r (itself r), (its_case r, (up r (parent r) (up r r (itself r)), tt))))
exlet_lie (events.Compensated r) = λ identity. (itself r, (up r r (itself r), tt))
exlet_lie (events.Suspend j) = λ identity. (itself j, tt)
exlet_lie (events.Continue j) = λ identity. (itself j, tt)
exlet_lie e = tt

module _ (e : Event) (i : Ident) (lie : Each (Lies i) (changes e)) where
  warm_there : (j : Ident) → is_identity j ≡ true → list_any (same j) (warms e) ≡ true → case_number j ≡ case_number i
  warm_there j identity warm = lies_there i j (elim (or_cases (list_any (same j) (changes e)) (list_any (same j) (map parent (changes e)))
      (sym (list_any-append (same j) (changes e) (map parent (changes e))) ∙ warm)) [
        | inl here ↦ among i j (changes e) lie here
        | inr above ↦ among i j (map parent (changes e)) (all_up i (changes e) lie) above
      ]) identity

-- ---- what an event may set moving

module _ (e : Event) (i : Ident) where
  abbrev in_its_case : Ident → Option Ident → Bool
  in_its_case j at = is_some_and at (λ (k : Ident). case_number j == case_number k)

  pub done_there : done_at e ≡ Some i → is_identity i ≡ true → (j : Ident) → is_identity j ≡ true → is_moved e j ≡ true → case_number j ≡ case_number i
  done_there is identity j j_identity moved =
      elim (or_cases (is_unsettled e j) (list_any (same j) (warms e)) moved) [
        | inl whole ↦ never (sym (ap (λ (o : Option Ident). is_none o && in_its_case j (exlet_at e)) is) ∙ whole)
        | inr warm ↦ warm_there e i (subst (λ o. IfSome o (LieAll e)) is (done_lie e) identity) j j_identity warm
      ]

  pub exlet_there : exlet_at e ≡ Some i → is_identity i ≡ true → (j : Ident) → is_identity j ≡ true → list_any (same j) (warms e) ≡ true
      → case_number j ≡ case_number i
  exlet_there is identity = warm_there e i (subst (λ o. IfSome o (LieAll e)) is (exlet_lie e) identity)

  pub exlet_moves : exlet_at e ≡ Some i → is_identity i ≡ true → (n : ℕ) → n ≡ case_number i → MovesWithin e (Some n)
  exlet_moves is identity n number = λ j j_identity moved.
      elim (or_cases (is_unsettled e j) (list_any (same j) (warms e)) moved) [
        | inl whole ↦
            eqb-true (case_number j) (case_number i)
            (sym (ap (in_its_case j) is) ∙ and_right (is_none (done_at e)) (in_its_case j (exlet_at e)) whole)
            ∙ sym number
        | inr warm ↦ exlet_there is identity j j_identity warm ∙ sym number
      ]

launched : (n : ℕ) (j : Ident) → is_identity j ≡ true → (same j (n ∷ []) || (same j [] || false)) ≡ true → case_number j ≡ n
launched n j identity moved = elim (or_cases (same j (n ∷ [])) (same j [] || false) moved) [
  | inl here ↦ ap case_number ((bytes_eq-Decides j (n ∷ [])).0 here)
  | inr none ↦ never (sym (ap is_identity ((bytes_eq-Decides j []).0 (sym (or-false (same j [])) ∙ none))) ∙ identity)
]

by_kind : (e : Event) → done_at e ≡ None → exlet_at e ≡ None → MovesWithin e (begun_or_over e)
by_kind (events.Launch n spec vals) none off = λ j identity moved. launched n j identity moved
by_kind (events.Finish n) none off = λ j identity moved. never moved
by_kind (events.Cancel n) none off = λ j identity moved. never moved
by_kind (events.Person name roles) none off = λ j. refl
by_kind (events.Load name text) none off = λ j. refl
by_kind (events.AddRule p at side when conclusion number) none off = λ j. refl
by_kind (events.Advance n) none off = λ j. refl
by_kind (events.Pass j check) none off = nowhere (sym off)
by_kind (events.Except j check node n) none off = nowhere (sym off)
by_kind (events.Substitute j worklet) none off = nowhere (sym off)
by_kind (events.CompleteWorklet j) none off = nowhere (sym off)
by_kind (events.Raise j kind node n) none off = nowhere (sym off)
by_kind (events.Prim r p) none off = nowhere (sym off)
by_kind (events.Compensated r) none off = nowhere (sym off)
by_kind (events.Continue j) none off = nowhere (sym off)
by_kind e none off = nowhere (sym none)

pub begun_moves : (e : Event) → done_at e ≡ None → exlet_at e ≡ None → (found : Option ℕ) → found ≡ begun_or_over e → MovesWithin e found
begun_moves e none off found is = subst (MovesWithin e) (sym is) (by_kind e none off)
