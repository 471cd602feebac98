-- An item that may go on without a person goes on, a case at its end is over, and a compensation at its end goes, by an event that is allowed.
use Rattle.std.specs.Prelude.{◌≡◌, ◌⊎◌, ℕ, suc, ◌&&◌, ◌||◌, Bool, true, not, [], ◌∷◌, length, Some, is_some, refl}
use Rattle.std.proofs.Common.{◌∙◌, ap, arith, inl, inr}
use Rattle.std.proofs.lemmas.Bool.{and_parts, and_from, eqb-true, or_cases}
use Rattle.yw_state.proofs.Tests.{never, there_and}
use Rattle.yw_state.specs.Allowed.{allows}
use Rattle.yw_state.specs.Identity.{Ident, case_ident, is_case_ident}
use Rattle.yw_base.specs.Identity.{case_number}
use Rattle.yw_state.specs.Joins.{at_output}
use Rattle.yw_state.specs.Nets.{child_net, is_atomic, is_empty}
use Rattle.yw_state.specs.Options.{is_some_and}
use Rattle.yw_state.specs.State.{State, ItemAt, item_at}
use Rattle.yw_state.specs.Words.{busy, clear, is_executing, is_ready}
use Rattle.yw_state.specs.declared.event.Event.TheVariants as events
use Rattle.yw_still.specs.Still.{SomethingComes, case_ends, compensation_ends, item_begins, item_ends, item_goes_on}

-- a case's identity is that of its number
pub case_alone : (j : Ident) → is_case_ident j ≡ true → case_ident (case_number j) ≡ j
case_alone [] one = never one
case_alone (n ∷ []) one = refl
case_alone (n ∷ m ∷ j) one = let same = eqb-true (length (n ∷ m ∷ j)) 1 one in absurd (longer (length j) same)
  where
    longer : (k : ℕ) → suc (suc k) ≡ 1 → ⊥
    longer k e = omega arith

module _ (s : State) (j : Ident) where
  pub compensation_comes : compensation_ends s j ≡ true → SomethingComes s (case_number j)
  unfolding allows
  compensation_comes may = (events.Compensated j, record { here = refl; automatic = refl; allowed = (may, tt) })

  pub finish_comes : case_ends s j ≡ true → SomethingComes s (case_number j)
  unfolding allows
  finish_comes may =
      let parts = and_parts (is_case_ident j && clear s j && not (busy s j)) (at_output s j) may in
      let idle = and_parts (is_case_ident j && clear s j) (not (busy s j)) parts.0 in
      let free = and_parts (is_case_ident j) (clear s j) idle.0 in
      let at_case = ap (λ i. clear s i && not (busy s i) && at_output s i) (case_alone j free.0) ∙ and_from _ _ (and_from _ _ free.1 idle.1) parts.1 in
      (events.Finish (case_number j), record { here = refl; automatic = refl; allowed = (at_case, tt) })

  module _ (x : ItemAt) (is : item_at s j ≡ Some x) (free : clear s j ≡ true) where
    at_item : (p : ItemAt → Bool) → p x ≡ true → is_some_and (item_at s j) p ≡ true
    at_item p e = ap (λ o. is_some_and o p) is ∙ e

    begins : is_ready x.part.stage ≡ true → ((is_empty x.of_task.task ≡ true) ⊎ ((is_some (child_net x.of_task.task) && not (busy s j)) ≡ true)) → SomethingComes s (case_number j)
    unfolding allows
    begins at (inl empty) =
        (events.CompleteEmpty j, record { here = refl; automatic = refl; allowed = (and_from _ _ free (at_item (λ y. is_ready y.part.stage && is_empty y.of_task.task) (and_from _ _ at empty)), tt) })
    begins at (inr sub) =
        let parts = and_parts (is_some (child_net x.of_task.task)) (not (busy s j)) sub in
        (events.StartSub j, record { here = refl; automatic = refl; allowed = (and_from _ _ (and_from _ _ free parts.1) (at_item (λ y. is_ready y.part.stage && is_some (child_net y.of_task.task)) (and_from _ _ at parts.0)), tt) })

    ends : is_executing x.part.stage ≡ true → not (busy s j) ≡ true → at_output s j ≡ true → ((is_some (child_net x.of_task.task) ≡ true) ⊎ (is_atomic x.of_task.task ≡ true))
        → SomethingComes s (case_number j)
    unfolding allows
    ends at idle out (inl sub) =
        (events.CompleteSub j, record { here = refl; automatic = refl; allowed = (and_from _ _ (and_from _ _ (and_from _ _ free idle) (at_item (λ y. is_executing y.part.stage && is_some (child_net y.of_task.task)) (and_from _ _ at sub))) out, tt) })
    ends at idle out (inr atomic) =
        (events.CompleteWorklet j, record { here = refl; automatic = refl; allowed = (and_from _ _ (and_from _ _ (and_from _ _ free idle) (at_item (λ y. is_executing y.part.stage && is_atomic y.of_task.task) (and_from _ _ at atomic))) out, tt) })

    begins_or_ends : ((item_begins s j x ≡ true) ⊎ (item_ends s j x ≡ true)) → SomethingComes s (case_number j)
    begins_or_ends (inl e) =
        let k = and_parts (is_ready x.part.stage) (is_empty x.of_task.task || is_some (child_net x.of_task.task) && not (busy s j)) e in
        begins k.0 (or_cases _ _ k.1)
    begins_or_ends (inr e) =
        let out = and_parts (is_executing x.part.stage && (is_some (child_net x.of_task.task) || is_atomic x.of_task.task) && not (busy s j)) (at_output s j) e in
        let idle = and_parts (is_executing x.part.stage && (is_some (child_net x.of_task.task) || is_atomic x.of_task.task)) (not (busy s j)) out.0 in
        let k = and_parts (is_executing x.part.stage) (is_some (child_net x.of_task.task) || is_atomic x.of_task.task) idle.0 in
        ends k.0 idle.1 out.1 (or_cases _ _ k.1)

  pub item_comes : item_goes_on s j ≡ true → SomethingComes s (case_number j)
  item_comes may =
      let parts = and_parts (clear s j) _ may in
      let (x, is, goes) = there_and (item_at s j) _ parts.1 in
      begins_or_ends x is parts.0 (or_cases _ _ goes)
