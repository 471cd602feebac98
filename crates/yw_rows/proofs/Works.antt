-- What a person may enter: a task without an OR-join, or one that doesn't wait.
use Rattle.std.specs.Prelude.{◌≡◌, ℕ, true, false, List, [], ◌∷◌, ◌++◌, drop, take, Option, Some, None, IsTrue}
use Rattle.std.proofs.Common.{inl, inr}
use Rattle.yw_rows.proofs.Refused.{no_wait, waits_there, whole}
use Rattle.yw_rows.proofs.Resting.{no_some}
use Rattle.yw_rows.proofs.Waiting.{of_some}
use Rattle.yw_rows.specs.Play.{OfSome, computed}
use Rattle.yw_state.specs.Answers.{IsWork}
use Rattle.yw_state.specs.Broken.{Check, First, enter_checks, fact, fact_at, fault, placed, placeless, test, test_at}
use Rattle.yw_state.specs.Identity.{Ident}
use Rattle.yw_state.specs.Joins.{Waits}
use Rattle.yw_base.specs.Gates.{is_or}
use Rattle.yw_state.specs.Options.{is_some_and}
use Rattle.yw_state.specs.State.{State, TaskAt, task_at}
use Rattle.yw_state.specs.declared.answer.What.TheVariants.{Enter}

-- of the checks of an entry all up to the OR-join's wait, but that the case is quiet
abbrev pub looked_at : List Check → List Check
looked_at cs = take 2 cs ++ take 7 (drop 3 cs)

pub may_enter : (o : Option State) (who : List ℕ) (i : Ident) (t : List ℕ)
    → OfSome o (λ s. is_some_and (task_at s i t) (λ (x : TaskAt). is_or x.task.join) ≡ false)
    → OfSome o (λ s. First (computed (looked_at (enter_checks s who i t))) None) → OfSome o (λ s. IsWork s who (record { at = i; task = t; what = Enter }))
may_enter None who i t e f = e
may_enter (Some s) who i t e f = whole (looked_at (enter_checks s who i t)) None (no_wait s i t e, tt) f

pub may_join : (o : Option State) (who : List ℕ) (i : Ident) (t : List ℕ) → OfSome o (λ s. OfSome (task_at s i t) (λ x. Waits s i x → ⊥))
    → OfSome o (λ s. First (computed (looked_at (enter_checks s who i t))) None) → OfSome o (λ s. IsWork s who (record { at = i; task = t; what = Enter }))
may_join None who i t e f = e
may_join (Some s) who i t e f =
    whole (looked_at (enter_checks s who i t)) None (λ w. of_some (task_at s i t) (λ x. Waits s i x → ⊥) e w.0 w.1 w.3, tt) f

-- work that is first refused by a fact that holds is no work
abbrev HasFact : List Check → Type 0
HasFact [] = ⊥
HasFact (test broken r ∷ cs) = HasFact cs
HasFact (test_at place r ∷ cs) = HasFact cs
HasFact (fact Broken r ∷ cs) = Broken
HasFact (fact_at IsAt r ∷ cs) = ⊥
HasFact (fault Has ∷ cs) = ⊥

not_first : (cs : List Check) → HasFact cs → First cs None → ⊥
not_first [] h f = h
not_first (test true r ∷ cs) h f = no_some (placeless r) f
not_first (test false r ∷ cs) h f = not_first cs h f
not_first (test_at (Some place) r ∷ cs) h f = no_some (placed r place) f
not_first (test_at None r ∷ cs) h f = not_first cs h f
not_first (fact Broken r ∷ cs) h (inl here) = no_some (placeless r) here.1
not_first (fact Broken r ∷ cs) h (inr later) = later.0 h
not_first (fact_at IsAt r ∷ cs) h f = h
not_first (fault Has ∷ cs) h f = h

pub may_not_join : (o : Option State) (who : List ℕ) (i : Ident) (t : List ℕ) → OfSome o (λ s. OfSome (task_at s i t) (λ x. IsTrue (is_or x.task.join)))
    → OfSome o (λ s. OfSome (task_at s i t) (λ x. Waits s i x)) → OfSome o (λ s. IsWork s who (record { at = i; task = t; what = Enter }) → ⊥)
may_not_join None who i t is_or w = w
may_not_join (Some s) who i t is_or w = λ work. not_first (looked_at (enter_checks s who i t)) (waits_there s i (task_at s i t) is_or w) work
