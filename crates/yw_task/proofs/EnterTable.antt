-- The first rule that an entry breaks, of those that the net, the choice and the values show.
use Rattle.std.proofs.Common.{Bool, List, None, Option, Some, [], ap, false, inl, inr, length, refl, subst, sym, true, ℕ, ◌+◌, ◌∙◌, ◌∷◌, ◌≡◌}
use Rattle.std.specs.Option.{option_or}
use Rattle.std.specs.Prelude.{Err, IsErrAnd, IsTrue, Ok, Result, drop, nat_lt, not, option_and_then, option_map, slice_get, if◌then◌else◌}
use Rattle.yw_base.specs.Gates.{is_or}
use Rattle.yw_base.specs.Identity.{number_end}
use Rattle.yw_mark.specs.declared.join.Taken.{Taken}
use Rattle.yw_spec.specs.declared.spec.Net.{Net}
use Rattle.yw_spec.specs.declared.spec.Spec.{Spec}
use Rattle.yw_spec.specs.declared.task.Task.{Task}
use Rattle.yw_state.proofs.Tests.{nowhere, some_same}
use Rattle.yw_state.specs.Broken.{Check, First, enter_checks, fact, is_spent, misses_bounds, placed, placeless, test, test_at}
use Rattle.yw_state.specs.Broken as table
use Rattle.yw_state.specs.Identity.{Ident}
use Rattle.yw_state.specs.Joins.{Waits, has_tokens}
use Rattle.yw_state.specs.Options.{is_some_and}
use Rattle.yw_state.specs.Passing.{within_bounds}
use Rattle.yw_state.specs.State.{State, TaskAt, task_at}
use Rattle.yw_state.specs.Words.{active}
use Rattle.yw_state.specs.declared.rule.Refusal.{Refusal}
use Rattle.yw_state.specs.declared.rule.Rule.{Rule}
use Rattle.yw_state.specs.declared.rule.Rule.TheVariants as rules
use Rattle.yw_task.proofs.EnterAsk.{task_stands}
use Rattle.yw_task.specs.Completes.{AnswersFirst, or_else}
use Rattle.yw_task.specs.Enters.{Chooses, EnterBreaks, by_choice, enter_table, is_choice}
use Rattle.yw_task.specs.Giving.{entry_fault, entry_rows, undefined_entry}
use Rattle.yw_task.specs.Standing.{NetStands}
use Rattle.yw_task.specs.declared.fault.StepFault.{StepFault}
use Rattle.yw_task.specs.declared.fault.StepFault.TheVariants.{Memory, Refused}
use Rattle.yw_tree.specs.declared.Forest.{Forest}
use Rattle.yw_tree.specs.declared.NetState.{NetState, out-NetState}
use Rattle.yw_within.specs.Within.{NetIsWithin}

-- ---- the choice among what the net shows

shown_none : (shown : Option Rule) → option_map placeless shown ≡ None → shown ≡ None
shown_none None e = refl
shown_none (Some r) e = nowhere (sym e)

shown_is : (shown : Option Rule) (r : Rule) → option_map placeless shown ≡ Some (placeless r) → shown ≡ Some r
shown_is None r e = nowhere e
shown_is (Some q) r e = ap (λ (x : Refusal). Some x.rule) (some_same (placeless q) (placeless r) e)

module _ (P : Type 0) (rest : List Check) (shown : Option Rule) (later : Option Refusal) where
  abbrev Shown : Bool → Bool → Type 0
  Shown a b = First (test a rules.Active ∷ test b rules.NotEnabled ∷ fact P rules.OrWaits ∷ []) (option_map placeless shown)

  abbrev Chosen : Bool → Bool → Bool → Type 0
  Chosen a b chosen =
      First (test a rules.Active ∷ test b rules.NotEnabled ∷ test (not chosen) rules.NotEnabled ∷ fact P rules.OrWaits ∷ rest) (or_else later (by_choice chosen shown))

  first_chosen : (a b chosen : Bool) → Shown a b → First rest later → Chosen a b chosen
  first_chosen true b true h r = ap (λ (o : Option Rule). or_else later (by_choice true o)) (shown_is shown rules.Active h)
  first_chosen true b false h r = ap (λ (o : Option Rule). or_else later (by_choice false o)) (shown_is shown rules.Active h)
  first_chosen false true true h r = ap (λ (o : Option Rule). or_else later (by_choice true o)) (shown_is shown rules.NotEnabled h)
  first_chosen false true false h r = ap (λ (o : Option Rule). or_else later (by_choice false o)) (shown_is shown rules.NotEnabled h)
  first_chosen false false true (inl (p, e)) r = inl (p, ap (λ (o : Option Rule). or_else later o) (shown_is shown rules.OrWaits e))
  first_chosen false false true (inr (p, e)) r = inr (p, subst (λ (o : Option Rule). First rest (or_else later o)) (sym (shown_none shown e)) r)
  first_chosen false false false (inl (p, e)) r = ap (λ (o : Option Rule). or_else later (by_choice false o)) (shown_is shown rules.OrWaits e)
  first_chosen false false false (inr (p, e)) r = ap (λ (o : Option Rule). or_else later (by_choice false o)) (shown_none shown e)

-- ---- what the values show

first_later : (m : Option (List ℕ)) (a b : Bool)
    → First (test_at m rules.Mapping ∷ test a rules.Count ∷ test b rules.Numbers ∷ [])
    (option_or (option_map (placed rules.Mapping) m) (option_map placeless (if a then Some rules.Count else (if b then Some rules.Numbers else None))))
first_later (Some at) a b = refl
first_later None true b = refl
first_later None false true = refl
first_later None false false = refl

module _ (names : ℕ → List ℕ) (f : Forest) (s : State) (i : Ident) (net : Net) (state : NetState) (h : NetStands names f s i net state) (spec : Spec) (within : NetIsWithin spec net) (t : ℕ) (task : Task) (at : slice_get net.tasks t ≡ Some task) (first : ℕ) (next : s.next ≡ first) where
  abbrev Later : Option TaskAt → Option Refusal → Type 0
  Later o later =
      First (test_at (option_and_then table.undefined_entry o) rules.Mapping ∷ test (is_some_and o misses_bounds) rules.Count
      ∷ test (is_some_and o (λ x. is_spent s (length (entry_rows x.task x.within.part.vals)))) rules.Numbers ∷ []) later

  its_later : Later (task_at s i task.name) (entry_fault task (out-NetState state).vals first)
  its_later =
      let vals = (out-NetState state).vals in
      let many = length (entry_rows task vals) in
      subst (λ o. Later o (entry_fault task vals first)) (sym (task_stands names f s i net state h spec within t task at))
      (subst (λ n. First (test_at (undefined_entry task vals) rules.Mapping ∷ test (not (within_bounds task.many many)) rules.Count ∷ test (nat_lt number_end (n + many)) rules.Numbers ∷ []) (entry_fault task vals first)) (sym next)
      (first_later (undefined_entry task vals) (not (within_bounds task.many many)) (nat_lt number_end (first + many))))

-- the first of the whole table
pub enter_breaks : (net : Net) (state : NetState) (t : ℕ) (taken : Taken) (first : ℕ) (task : Task) → slice_get net.tasks t ≡ Some task → (found : Option Rule) → Chooses net state t taken found
    → EnterBreaks net state t taken first (or_else (entry_fault task (out-NetState state).vals first) found)
enter_breaks net state t taken first task at found chooses = λ names f s i who spec u h within there next.
    let vals = (out-NetState state).vals in
    let Waiting : Type 0 = (y : TaskAt) × (task_at s i u.name ≡ Some y) × IsTrue (is_or y.task.join) × Waits s i y in
    let active = is_some_and (task_at s i u.name) (λ (x : TaskAt). active s i x.number) in
    let lacks = is_some_and (task_at s i u.name) (λ (x : TaskAt). not (has_tokens x.task.join s i x.task.before)) in
    let later = entry_fault u vals first in
    let shown = chooses.asks names f s i who spec u h within there in
    let whole = first_chosen Waiting (drop 10 (enter_checks s who i u.name)) chooses.shown later active lacks chooses.chosen shown (its_later names f s i net state h spec within t u there first next) in
    subst (λ (z : Task). First (enter_table s who i u.name (is_choice u.join (out-NetState state).marks u.before taken)) (or_else (entry_fault z vals first) found)) (some_same u task (sym there ∙ at))
    (subst (λ (o : Option Rule). First (enter_table s who i u.name (is_choice u.join (out-NetState state).marks u.before taken)) (or_else later o)) (sym chooses.same)
    (subst (λ (b : Bool). First (enter_table s who i u.name b) (or_else later (by_choice chooses.chosen chooses.shown))) (sym (chooses.choice u there)) whole))

-- where a rule is found, the values aren't looked at
pub choice_breaks : (net : Net) (state : NetState) (t : ℕ) (taken : Taken) (first : ℕ) (rule : Rule) → Chooses net state t taken (Some rule) → EnterBreaks net state t taken first (Some (placeless rule))
choice_breaks net state t taken first rule chooses = λ names f s i who spec u h within there next.
    enter_breaks net state t taken first u there (Some rule) chooses names f s i who spec u h within there next

-- where none is found of those that the choice shows, none is of those that the net shows
pub none_shown : (chosen : Bool) (shown : Option Rule) → by_choice chosen shown ≡ None → shown ≡ None
none_shown true shown e = e
none_shown false None e = refl
none_shown false (Some rules.Active) e = nowhere (sym e)
none_shown false (Some r) e = nowhere (sym e)

-- ---- answers that are passed on

pub is_fault : {A : Type 0} (r : Result A StepFault) (e : StepFault) → IsErrAnd r (λ x. x ≡ e) → r ≡ Err e
is_fault (Ok a) e h = absurd h
is_fault (Err x) e h = ap (λ (z : StepFault). Err z) h

-- whatever is answered where there is no fault
pub answers_as : (P Q : Option Refusal → Type 0) → ((o : Option Refusal) → P o → Q o) → (e : StepFault) → AnswersFirst {A = ℕ} P (Err e) → AnswersFirst {A = ℕ} Q (Err e)
answers_as P Q h (Refused refusal) p = h (Some refusal) p
answers_as P Q h Memory p = tt
