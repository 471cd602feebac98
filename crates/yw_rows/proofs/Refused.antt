-- From the checks that compute to all checks: where the case is quiet and no OR-join waits.
use Rattle.std.specs.Prelude.{◌≡◌, ◌⊎◌, ℕ, true, false, List, [], ◌∷◌, Option, Some, None, IsTrue, refl}
use Rattle.std.proofs.Common.{inl, inr}
use Rattle.yw_base.specs.declared.value.Value.{Value}
use Rattle.yw_rows.proofs.Quiet.{rests}
use Rattle.yw_rows.proofs.Resting.{IsStill, no_some}
use Rattle.yw_rows.proofs.Waiting.{inside_some}
use Rattle.yw_rows.specs.Play.{OfSome, computed, no_reader}
use Rattle.yw_spec.specs.declared.spec.Place.{Place}
use Rattle.yw_state.specs.Allowed.{Allowed, allows}
use Rattle.yw_state.specs.Automatic.{Comes}
use Rattle.yw_state.specs.Broken.{Check, First, checks, fact, fact_at, fault, placed, placeless, test, test_at}
use Rattle.yw_state.specs.Identity.{Ident}
use Rattle.yw_base.specs.Identity.{case_number}
use Rattle.yw_state.specs.Joins.{Waits}
use Rattle.yw_base.specs.Gates.{is_or}
use Rattle.yw_state.specs.Options.{is_some_and}
use Rattle.yw_state.specs.State.{State, TaskAt, task_at}
use Rattle.yw_state.specs.Texts.{nothing}
use Rattle.yw_state.specs.declared.event.Event.{Event}
use Rattle.yw_state.specs.declared.event.Event.TheVariants as events
use Rattle.yw_state.specs.declared.command.Command.TheVariants as commands
use Rattle.yw_state.specs.declared.command.Given.{Given}
use Rattle.yw_state.specs.declared.rule.Refusal.{Refusal}
use Rattle.yw_state.specs.declared.rule.Rule.TheVariants.{OrWaits}

-- none of the checks that don't compute is broken
abbrev pub NoneHold : List Check → Type 0
NoneHold [] = Unit {0}
NoneHold (test broken r ∷ cs) = NoneHold cs
NoneHold (test_at place r ∷ cs) = NoneHold cs
NoneHold (fact Broken r ∷ cs) = (Broken → ⊥) × NoneHold cs
NoneHold (fact_at IsAt r ∷ cs) = ((at : List ℕ) → IsAt at → ⊥) × NoneHold cs
NoneHold (fault Has ∷ cs) = ((refusal : Refusal) → Has refusal → ⊥) × NoneHold cs

pub whole : (cs : List Check) (found : Option Refusal) → NoneHold cs → First (computed cs) found → First cs found
whole [] found none f = f
whole (test true r ∷ cs) found none f = f
whole (test false r ∷ cs) found none f = whole cs found none f
whole (test_at (Some place) r ∷ cs) found none f = f
whole (test_at None r ∷ cs) found none f = whole cs found none f
whole (fact Broken r ∷ cs) found none f = inr (none.0, whole cs found none.1 f)
whole (fact_at IsAt r ∷ cs) found none f = inr (none.0, whole cs found none.1 f)
whole (fault Has ∷ cs) found none f = inr (none.0, whole cs found none.1 f)

not_moving : (s : State) → IsStill s → (j : Ident) → ((e : Event) × Comes s (case_number j) e) → ⊥
not_moving s still j moving = rests s still (case_number j) moving.0 moving.1

pub start : (o : Option State) (who : List ℕ) (j : Ident) (found : Option Refusal) → OfSome o IsStill
    → OfSome o (λ s. First (computed (checks no_reader s (commands.Start who j))) found) → OfSome o (λ s. First (checks no_reader s (commands.Start who j)) found)
unfolding checks
start None who j found still f = still
start (Some s) who j found still f = whole (checks no_reader s (commands.Start who j)) found (not_moving s still j, tt) f

pub complete : (o : Option State) (who : List ℕ) (j : Ident) (gs : List Given) (found : Option Refusal) → OfSome o IsStill
    → OfSome o (λ s. First (computed (checks no_reader s (commands.Complete who j gs))) found)
    → OfSome o (λ s. First (checks no_reader s (commands.Complete who j gs)) found)
unfolding checks
complete None who j gs found still f = still
complete (Some s) who j gs found still f = whole (checks no_reader s (commands.Complete who j gs)) found (not_moving s still j, tt) f

pub add : (o : Option State) (who : List ℕ) (i : Ident) (t : List ℕ) (v : Option Value) (found : Option Refusal) → OfSome o IsStill
    → OfSome o (λ s. First (computed (checks no_reader s (commands.Add who i t v))) found) → OfSome o (λ s. First (checks no_reader s (commands.Add who i t v)) found)
unfolding checks
add None who i t v found still f = still
add (Some s) who i t v found still f = whole (checks no_reader s (commands.Add who i t v)) found (not_moving s still i, tt) f

no_or_join : (o : Option TaskAt) → is_some_and o (λ (x : TaskAt). is_or x.task.join) ≡ false → (x : TaskAt) → o ≡ Some x → IsTrue (is_or x.task.join) → ⊥
no_or_join None e x h y = cc
no_or_join (Some z) e x h y = cc (inside_some z x h)

pub no_wait : (s : State) (i : Ident) (t : List ℕ) → is_some_and (task_at s i t) (λ (x : TaskAt). is_or x.task.join) ≡ false
    → ((x : TaskAt) × (task_at s i t ≡ Some x) × IsTrue (is_or x.task.join) × Waits s i x) → ⊥
no_wait s i t e w = no_or_join (task_at s i t) e w.0 w.1 w.2

-- of a task without an OR-join, or of no task
pub enter : (o : Option State) (who : List ℕ) (i : Ident) (t : List ℕ) (found : Option Refusal) → OfSome o IsStill
    → OfSome o (λ s. is_some_and (task_at s i t) (λ (x : TaskAt). is_or x.task.join) ≡ false)
    → OfSome o (λ s. First (computed (checks no_reader s (commands.Enter who i t))) found) → OfSome o (λ s. First (checks no_reader s (commands.Enter who i t)) found)
unfolding checks
enter None who i t found still e f = still
enter (Some s) who i t found still e f = whole (checks no_reader s (commands.Enter who i t)) found (not_moving s still i, (no_wait s i t e, tt)) f

-- and it is entered where it has its tokens
pub enters : (o : Option State) (i : Ident) (t : List ℕ) (places : List Place) (first count : ℕ)
    → OfSome o (λ s. is_some_and (task_at s i t) (λ (x : TaskAt). is_or x.task.join) ≡ false)
    → OfSome o (λ s. IsTrue (allows s (events.Enter i t places first count) nothing)) → OfSome o (λ s. Allowed s (events.Enter i t places first count) nothing)
enters None i t places first count e tokens = e
enters (Some s) i t places first count e tokens = (tokens, λ x here or w. no_wait s i t e (x, here, or, w))

-- ---- an OR-join that waits: no check that computes is broken, and of the others this is the first

abbrev FirstFact : List Check → Option Refusal → Type 0
FirstFact [] found = ⊥
FirstFact (test broken r ∷ cs) found = FirstFact cs found
FirstFact (test_at place r ∷ cs) found = FirstFact cs found
FirstFact (fact Broken r ∷ cs) found = (Broken × (found ≡ Some (placeless r))) ⊎ ((Broken → ⊥) × FirstFact cs found)
FirstFact (fact_at IsAt r ∷ cs) found = ((at : List ℕ) → IsAt at → ⊥) × FirstFact cs found
FirstFact (fault Has ∷ cs) found = ((refusal : Refusal) → Has refusal → ⊥) × FirstFact cs found

by_fact : (cs : List Check) (found : Option Refusal) → First (computed cs) None → FirstFact cs found → First cs found
by_fact [] found none f = absurd f
by_fact (test true r ∷ cs) found none f = no_some (placeless r) none
by_fact (test false r ∷ cs) found none f = by_fact cs found none f
by_fact (test_at (Some place) r ∷ cs) found none f = no_some (placed r place) none
by_fact (test_at None r ∷ cs) found none f = by_fact cs found none f
by_fact (fact Broken r ∷ cs) found none (inl here) = inl here
by_fact (fact Broken r ∷ cs) found none (inr (not_here, later)) = inr (not_here, by_fact cs found none later)
by_fact (fact_at IsAt r ∷ cs) found none f = inr (f.0, by_fact cs found none f.1)
by_fact (fault Has ∷ cs) found none f = inr (f.0, by_fact cs found none f.1)

pub waits_there : (s : State) (i : Ident) (o : Option TaskAt) → OfSome o (λ x. IsTrue (is_or x.task.join)) → OfSome o (λ x. Waits s i x)
    → (x : TaskAt) × (o ≡ Some x) × IsTrue (is_or x.task.join) × Waits s i x
waits_there s i None is_or w = absurd w
waits_there s i (Some x) is_or w = (x, refl, is_or, w)

pub or_waits : (o : Option State) (who : List ℕ) (i : Ident) (t : List ℕ) → OfSome o IsStill
    → OfSome o (λ s. OfSome (task_at s i t) (λ x. IsTrue (is_or x.task.join))) → OfSome o (λ s. OfSome (task_at s i t) (λ x. Waits s i x))
    → OfSome o (λ s. First (computed (checks no_reader s (commands.Enter who i t))) None)
    → OfSome o (λ s. First (checks no_reader s (commands.Enter who i t)) (Some (placeless OrWaits)))
unfolding checks
or_waits None who i t still is_or w none = still
or_waits (Some s) who i t still is_or w none =
    by_fact (checks no_reader s (commands.Enter who i t)) (Some (placeless OrWaits)) none
    (inr (not_moving s still i, inl (waits_there s i (task_at s i t) is_or w, refl)))
