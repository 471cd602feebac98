-- Whether an OR-join waits in the state that a row leads to.
use Rattle.std.specs.Prelude.{ℕ, List}
use Rattle.yw_rows.specs.Play.{Entry, OfSome, Then}
use Rattle.yw_state.specs.Allowed.{Allowed}
use Rattle.yw_state.specs.Identity.{Ident}
use Rattle.yw_state.specs.Joins.{Waits}
use Rattle.yw_state.specs.State.{State, TaskAt, task_at}
use Rattle.yw_state.specs.Texts.{nothing}
use Rattle.yw_state.specs.declared.event.Event.{Event}

-- what is so of a task then
abbrev pub OfTask : List Entry → ℕ → Ident → List ℕ → (State → TaskAt → Type 0) → Type 0
OfTask row k i t P = Then row k (λ s. OfSome (task_at s i t) (P s))

-- the task of this name waits
abbrev pub WaitsThen : List Entry → ℕ → Ident → List ℕ → Type 0
WaitsThen row k i t = OfTask row k i t (λ s x. Waits s i x)

-- it doesn't
abbrev pub WaitsNotThen : List Entry → ℕ → Ident → List ℕ → Type 0
WaitsNotThen row k i t = OfTask row k i t (λ s x. Waits s i x → ⊥)

-- the event is allowed then, an OR-join's wait counted
abbrev pub AllowedThen : List Entry → ℕ → Event → Type 0
AllowedThen row k e = Then row k (λ s. Allowed s e nothing)

-- it isn't
abbrev pub ForbiddenThen : List Entry → ℕ → Event → Type 0
ForbiddenThen row k e = Then row k (λ s. Allowed s e nothing → ⊥)
