-- The entries of the tasks of a net, task by task.
use Rattle.std.proofs.Common.{◌≡◌, ◌∙◌, ◌+◌, ◌++◌, ℕ, Bool, false, true, List, [], ◌∷◌, Some, ap, arith, inl, inr, map, refl, subst, sym}
use Rattle.std.proofs.lemmas.Bool.{ltb-false, ltb-true}
use Rattle.std.proofs.lemmas.List.{map-append}
use Rattle.std.specs.List.{AllByRecursion, IsDistinct}
use Rattle.std.specs.Ordering.{eq_by_cmp}
use Rattle.std.specs.Prelude.{◌↔◌, nat_lt, slice_get}
use Rattle.yw_known.specs.declared.here.NetHere.{NetHere}
use Rattle.yw_library.specs.Holdings.{Holdings}
use Rattle.yw_library.specs.Names.{names_of}
use Rattle.yw_open.specs.Entries.{AddsEntry, AddsIfOpen, AreEntries, EntersAs, IsEntryBelow, ListsBelow, MayBeEntered, StandsHere, entry_of, is_chosen, name_of, task_here}
use Rattle.yw_open.specs.Opens.{NoneChosen}
use Rattle.yw_shown.proofs.Elements.{in_left, in_one, in_right}
use Rattle.yw_spec.specs.declared.task.Task.{Task}
use Rattle.yw_state.proofs.Entries.{IsIn}
use Rattle.yw_state.proofs.MapLemmas.{apart, by_name}
use Rattle.yw_state.proofs.Tests.{by_test, never, some_same}
use Rattle.yw_state.specs.Identity.{Ident}
use Rattle.yw_state.specs.Map.{lexical}
use Rattle.yw_state.specs.State.{NetAt, State, TaskAt, task_at}
use Rattle.yw_task.proofs.EnterAsk.{task_stands}
use Rattle.yw_tree.specs.declared.Forest.{Forest}
use Rattle.yw_within.proofs.Finding.{named_of}
use Rattle.yw_work.specs.declared.open.Open.{Open}

-- ---- names that are apart

all_pushed : {K : Type 0} (P : K → Type 0) (ks : List K) (k : K) → AllByRecursion P ks → P k → AllByRecursion P (ks ++ k ∷ [])
all_pushed P [] k all one = (one, tt)
all_pushed P (q ∷ ks) k all one = (all.0, all_pushed P ks k all.1 one)

distinct_pushed : {K : Type 0} (e : K → K → Bool) (ks : List K) (k : K) → IsDistinct e ks → AllByRecursion (λ q. e q k ≡ false) ks
    → IsDistinct e (ks ++ k ∷ [])
unfolding IsDistinct
distinct_pushed e [] k distinct other = (tt, tt)
distinct_pushed e (q ∷ ks) k distinct other =
    (all_pushed (λ r. e q r ≡ false) ks k distinct.0 other.0, distinct_pushed e ks k distinct.1 other.1)

none_distinct : {K : Type 0} (e : K → K → Bool) → IsDistinct e []
unfolding IsDistinct
none_distinct e = tt

all_other : (name : List ℕ) (opens : List Open) → ((o : Open) → IsIn opens o → o.task ≡ name → ⊥)
    → AllByRecursion (λ q. eq_by_cmp lexical q name ≡ false) (map name_of opens)
all_other name [] other = tt
all_other name (o ∷ opens) other =
    (apart by_name o.task name (other o (inl refl)), all_other name opens (λ p within. other p (inr within)))

-- ---- one task more

module _ (s : State) (i : Ident) (t : ℕ) (x : TaskAt) (number : x.number ≡ t) (here : task_at s i x.task.name ≡ Some x)
    (only : (y : TaskAt) → task_at s i y.task.name ≡ Some y → y.number ≡ t → y ≡ x) where
  later : (o : Open) → IsEntryBelow s i t o → IsEntryBelow s i (t + 1) o
  later o w =
      let below = w.below in
      record { of_task = w.of_task; here = w.here; below = omega (arith, below); may = w.may; is = w.is }

  last : MayBeEntered s i x → IsEntryBelow s i (t + 1) (entry_of x.task)
  last may = record { of_task = x; here = here; below = omega (arith, number); may = may; is = refl }

  -- it is one of those before, or this one
  by_number : {G : Type 0} (o : Open) → IsEntryBelow s i (t + 1) o → (IsEntryBelow s i t o → G) → (MayBeEntered s i x → entry_of x.task ≡ o → G) → G
  by_number o w before this =
      let below = w.below in
      by_test (nat_lt w.of_task.number t)
      (λ less. before (record { of_task = w.of_task; here = w.here; below = ltb-true w.of_task.number t less; may = w.may; is = w.is }))
      (λ least.
      let most = ltb-false w.of_task.number t least in
      let same = only w.of_task w.here (omega (arith, below, most)) in
      this (subst (MayBeEntered s i) same w.may) (ap (λ (y : TaskAt). entry_of y.task) (sym same) ∙ w.is))

  -- those before have other names
  other_name : (o : Open) → IsEntryBelow s i t o → o.task ≡ x.task.name → ⊥
  other_name o w named =
      let below = w.below in
      let called : w.of_task.task.name ≡ x.task.name = ap name_of w.is ∙ named in
      let same : w.of_task ≡ x = some_same w.of_task x (sym w.here ∙ ap (task_at s i) called ∙ here) in
      let its = ap (λ (y : TaskAt). y.number) same in
      omega (arith, below, its, number)

  pub one_more : (old new : List Open) → AreEntries s i t old → AddsIfOpen s i x old new → AreEntries s i (t + 1) new
  one_more old new are (inl (may, is)) =
      subst (AreEntries s i (t + 1)) (sym is) (record {
        exact = λ o. (
          λ within. elim (in_one old (entry_of x.task ∷ []) o within) [
            | inl before ↦ later o ((are.exact o).0 before)
            | inr this ↦ elim this [ inl same ↦ subst (IsEntryBelow s i (t + 1)) same (last may) | inr none ↦ absurd none ]
          ],
          λ w. by_number o w (λ before. in_left old (entry_of x.task ∷ []) o ((are.exact o).1 before))
              (λ m same. in_right old (entry_of x.task ∷ []) o (inl same)),
        );
        apart =
            subst (IsDistinct (eq_by_cmp lexical)) (sym (map-append name_of old (entry_of x.task ∷ [])))
            (distinct_pushed (eq_by_cmp lexical) (map name_of old) x.task.name are.apart
            (all_other x.task.name old (λ o within. other_name o ((are.exact o).0 within))));
      })
  one_more old new are (inr (cannot, is)) =
      subst (AreEntries s i (t + 1)) (sym is) (record {
        exact = λ o. (
          λ within. later o ((are.exact o).0 within),
          λ w. by_number o w (λ before. (are.exact o).1 before) (λ m same. absurd (cannot m)),
        );
        apart = are.apart;
      })

-- ---- a net that is found

pub none_yet : (h : NetHere) → ListsBelow h 0 []
none_yet h = λ known f s i w. record {
  exact = λ o. (λ within. absurd within, λ entry. (let below = entry.below in absurd (omega (arith, below))));
  apart = none_distinct (eq_by_cmp lexical);
}

pub next_listed : (h : NetHere) (t : ℕ) (task : Task) (old new : List Open) → slice_get h.net.now.tasks t ≡ Some task → ListsBelow h t old
    → AddsEntry h t old new → ListsBelow h (t + 1) new
next_listed h t task old new at lists adds = λ known f s i w.
    let x : TaskAt = task_here known h t task in
    let here : task_at s i task.name ≡ Some x =
    task_stands (names_of known) f s i h.net.now h.state.now w.here.stands h.spec.now w.here.within t task at in
    one_more s i t x refl here
    (λ y there number.
    let of = named_of s i y.task.name y there in
    let net : y.within ≡ x.within = some_same y.within x.within (sym of.stands ∙ w.here.at) in
    let its : Some y.task ≡ Some task =
    sym of.task ∙ ap (λ (n : NetAt). slice_get n.net.tasks y.number) net ∙ ap (slice_get h.net.now.tasks) number ∙ at in
    let called = ap (λ (u : Task). u.name) (some_same y.task task its) in
    some_same y x (sym there ∙ ap (task_at s i) called ∙ here))
    old new (lists known f s i w) (adds known f s i task w at)

-- ---- what one step adds

abbrev IsChosenBy : Bool → Type 0
IsChosenBy chosen = (s : State) (x : TaskAt) → NoneChosen s → is_chosen s x ≡ chosen

module _ (h : NetHere) (t : ℕ) (chosen : Bool) (tells : IsChosenBy chosen) (answer : Bool) (enters : EntersAs h.net.now h.state.now t chosen answer) where
  -- whether a person may enter it is told
  told : (known : Holdings) (f : Forest) (s : State) (i : Ident) (task : Task) → StandsHere known f s i h → slice_get h.net.now.tasks t ≡ Some task
      → (answer ≡ true) ↔ MayBeEntered s i (task_here known h t task)
  told known f s i task w at =
      enters (names_of known) f s i h.spec.now task w.here.stands w.here.within at (tells s (task_here known h t task) w.asked.unchosen)

  pub kept : (old : List Open) → answer ≡ false → AddsEntry h t old old
  kept old not_so = λ known f s i task w at. inr (λ may. never (sym not_so ∙ (told known f s i task w at).1 may), refl)

  pub added : (u : Task) → slice_get h.net.now.tasks t ≡ Some u → (old new : List Open) (o : Open) → o ≡ entry_of u → new ≡ old ++ o ∷ []
      → answer ≡ true → AddsEntry h t old new
  added u there old new o made pushed is_so = λ known f s i task w at.
      let same : u ≡ task = some_same u task (sym there ∙ at) in
      inl ((told known f s i task w at).0 is_so, pushed ∙ ap (λ (p : Open). old ++ p ∷ []) (made ∙ ap entry_of same))
