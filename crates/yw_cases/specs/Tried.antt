-- What is computed of an event that leads on, and by which number it is done.
use Rattle.std.specs.Prelude.{◌≡◌, ◌||◌, Bool, List, MatchOption, Option, Some, false, true, ℕ}
use Rattle.yw_library.specs.Holdings.{Holdings, IsKept}
use Rattle.yw_standing.specs.State.{state_of}
use Rattle.yw_standing.specs.Tried.{LeadsNowhere, LeadsOn}
use Rattle.yw_standing.specs.declared.standing.Standing.{Standing}
use Rattle.yw_texts.specs.Texts.{reader}
use Rattle.yw_spec.specs.declared.spec.Spec.{Spec}
use Rattle.yw_state.specs.Broken.{Breaks}
use Rattle.yw_state.specs.Identity.{Ident}
use Rattle.yw_state.specs.State.{State, TaskAt, task_at}
use Rattle.yw_state.specs.declared.command.Command.TheVariants as commands
use Rattle.yw_state.specs.declared.event.Event.{Event}
use Rattle.yw_state.specs.declared.event.Event.TheVariants as events
use Rattle.yw_state.specs.declared.rule.Refusal.{Refusal}
use Rattle.yw_walk.specs.Computed.{IsComputedOf}
use Rattle.yw_walk.specs.declared.found.Computed.{Computed}

-- The event is allowed, and this was computed of it.
pub record MayAct (old : Standing) (e : Event) (c : Computed) : Type 0 where
  pub leads : LeadsOn old e
  pub computed : IsComputedOf (state_of old) e c

-- so it is, or the event leads nowhere
abbrev pub TellsComputed : Standing → Event → Option Computed → Type 0
TellsComputed old e found = MatchOption found (LeadsNowhere old e) (MayAct old e)

-- ---- a load has a call of its own, by which its text is read once; a launch and an addition are done by a number

abbrev pub is_load : Event → Bool
is_load (events.Load name text) = true
is_load e = false

abbrev pub is_numbered : Event → Bool
is_numbered (events.Launch n name vals) = true
is_numbered (events.Add i name value n) = true
is_numbered e = false

-- it has calls of its own
abbrev pub is_apart : Event → Bool
is_apart e = is_load e || is_numbered e

-- A specification is loaded under the name, and has this number.
pub record IsSpecNumbered (known : Holdings) (name : List ℕ) (k : ℕ) : Type 0 where
  pub spec : Spec
  pub kept : IsKept known name spec k

-- The task of this name in the net at i has this number.
pub record IsTaskNumbered (s : State) (i : Ident) (name : List ℕ) (k : ℕ) : Type 0 where
  pub of_task : TaskAt
  pub named : task_at s i name ≡ Some of_task
  pub number : of_task.number ≡ k

-- the specification of a launch, the task of an addition has this number
abbrev pub IsNumbered : Standing → Event → ℕ → Type 0
IsNumbered h (events.Launch n name vals) k = IsSpecNumbered h.known name k
IsNumbered h (events.Add i name value n) k = IsTaskNumbered (state_of h) i name k
IsNumbered h e k = ⊥

-- The event is allowed, and this is its number.
pub record MayActBy (old : Standing) (e : Event) (k : ℕ) : Type 0 where
  pub leads : LeadsOn old e
  pub numbered : IsNumbered old e k

-- so it is, or the event leads nowhere
abbrev pub TellsNumbered : Standing → Event → Option ℕ → Type 0
TellsNumbered old e found = MatchOption found (LeadsNowhere old e) (MayActBy old e)

-- a load of this text breaks this rule first
abbrev pub IsUnfit : Standing → List ℕ → Refusal → Type 0
IsUnfit old text refusal = Breaks reader (state_of old) (commands.Load text) (Some refusal)
