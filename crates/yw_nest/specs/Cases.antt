-- Cases that begin and that end.
use Rattle.std.specs.Prelude.{◌≡◌, ℕ, ◌+◌, List, None, Some, length, replicate, slice_set, true}
use Rattle.yw_base.specs.Identity.{is_number}
use Rattle.yw_spec.specs.declared.spec.Net.{Net}
use Rattle.yw_spec.specs.declared.spec.Spec.{Spec}
use Rattle.yw_state.specs.After.{case_checks, with_next}
use Rattle.yw_state.specs.Map.{insert}
use Rattle.yw_state.specs.State.{State, spec_called}
use Rattle.yw_state.specs.Values.{Row}
use Rattle.yw_state.specs.declared.event.Event.TheVariants as events
use Rattle.yw_state.specs.declared.part.Checks.{Checks}
use Rattle.yw_state.specs.declared.part.Way.{Way}
use Rattle.yw_state.specs.declared.part.Way.TheVariants.{Cancelled, Finished}
use Rattle.yw_nest.specs.Does.{Does, NeedsNothing}
use Rattle.yw_tree.specs.Cases.{case_at}
use Rattle.yw_tree.specs.declared.Forest.{Forest}
use Rattle.yw_within.specs.Within.{IsWithin}

-- ---- a case begins

-- one token, on the net's input
abbrev pub first_tokens : Net → List ℕ
first_tokens net = slice_set (replicate (length net.places) 0) net.input 1

-- A case of the specification may come under the number: no case has it.
pub record CaseMayBegin (f : Forest) (spec : Spec) (n : ℕ) : Type 0 where
  pub within : IsWithin spec
  pub number : is_number n ≡ true
  pub fresh : case_at n f.cases ≡ None

-- The specification is the one that is loaded under its name, and what is due is what its trees say.
pub record BeginsAs (spec : Spec) (number : ℕ) (due : Checks) (names : ℕ → List ℕ) (s : State) : Type 0 where
  pub loaded : spec_called s (names number) ≡ Some spec
  pub checks : due ≡ case_checks s (names number)

-- case n of the specification begins with these values, and n is drawn
abbrev pub Launches : Spec → ℕ → ℕ → Row → Checks → Forest → Forest → Type 0
Launches spec number n vals due = Does (λ names. events.Launch n (names number) vals) (BeginsAs spec number due) (λ s. with_next s (n + 1))

-- ---- a case ends

-- the case is among those that are over, and ended this way
abbrev pub with_ended : ℕ → Way → State → State
with_ended n way s = record s { ended = insert s.ended n way }

abbrev pub Finishes : ℕ → Forest → Forest → Type 0
Finishes n = Does (λ names. events.Finish n) NeedsNothing (with_ended n Finished)

abbrev pub Cancels : ℕ → Forest → Forest → Type 0
Cancels n = Does (λ names. events.Cancel n) NeedsNothing (with_ended n Cancelled)
