-- Which events come of themselves, and when a case is quiet. Of the paper's transitions and the thesis's steps the server takes these;
-- which they are, and that it enters all but manual tasks, is our own.
use Rattle.std.specs.Prelude.{◌≡◌, ℕ, Bool, true, false, not, List, [], ◌∷◌, Option, Some, None, IsTrue}
use Rattle.yw_state.specs.Allowed.{Allowed}
use Rattle.yw_state.specs.Events.{after}
use Rattle.yw_base.specs.Identity.{case_number}
use Rattle.yw_state.specs.Judged.{is_manual}
use Rattle.yw_state.specs.Options.{is_some_and}
use Rattle.yw_state.specs.State.{State, task_at}
use Rattle.yw_state.specs.Texts.{nothing}
use Rattle.yw_state.specs.declared.event.Event.{Event}
use Rattle.yw_state.specs.declared.event.Event.TheVariants as events

-- the case of an event; a person, a specification and a rule are of none
abbrev pub case_of : Event → Option ℕ
case_of (events.Person name roles) = None
case_of (events.Load name text) = None
case_of (events.AddRule p at side when conclusion number) = None
case_of (events.Launch n spec vals) = Some n
case_of (events.Enter i t places first count) = Some (case_number i)
case_of (events.Start j who) = Some (case_number j)
case_of (events.Complete j out) = Some (case_number j)
case_of (events.Exit i t places) = Some (case_number i)
case_of (events.Add i t value n) = Some (case_number i)
case_of (events.Finish n) = Some n
case_of (events.Cancel n) = Some n
case_of (events.StartSub j) = Some (case_number j)
case_of (events.CompleteSub j) = Some (case_number j)
case_of (events.CompleteEmpty j) = Some (case_number j)
case_of (events.Pass j check) = Some (case_number j)
case_of (events.Except j check node n) = Some (case_number j)
case_of (events.Substitute j worklet) = Some (case_number j)
case_of (events.CompleteWorklet j) = Some (case_number j)
case_of (events.Raise j kind node n) = Some (case_number j)
case_of (events.Prim r p) = Some (case_number r)
case_of (events.Compensated r) = Some (case_number r)
case_of (events.Suspend j) = Some (case_number j)
case_of (events.Continue j) = Some (case_number j)
case_of (events.Advance n) = Some n

-- the server does it by itself
abbrev pub is_automatic : State → Event → Bool
is_automatic s (events.Enter i t places first count) = is_some_and (task_at s i t) (λ x. not (is_manual s x))
is_automatic s (events.Exit i t places) = true
is_automatic s (events.Finish n) = true
is_automatic s (events.StartSub j) = true
is_automatic s (events.CompleteSub j) = true
is_automatic s (events.CompleteEmpty j) = true
is_automatic s (events.Pass j check) = true
is_automatic s (events.Except j check node n) = true
is_automatic s (events.Substitute j worklet) = true
is_automatic s (events.CompleteWorklet j) = true
is_automatic s (events.Prim r p) = true
is_automatic s (events.Compensated r) = true
is_automatic s e = false

-- The event comes of itself in case n. It has no text.
pub record Comes (s : State) (n : ℕ) (e : Event) : Type 0 where
  pub here : case_of e ≡ Some n
  pub automatic : IsTrue (is_automatic s e)
  pub allowed : Allowed s e nothing

-- nothing comes of itself
abbrev pub IsQuiet : State → ℕ → Type 0
IsQuiet s n = (e : Event) → Comes s n e → ⊥

-- each of the events comes of itself in its turn
abbrev pub ComeAll : State → ℕ → List Event → Type 0
ComeAll s n [] = Unit {0}
ComeAll s n (e ∷ es) = Comes s n e × ComeAll (after s e nothing) n es

-- the state after events that have no text
abbrev pub after_each : State → List Event → State
after_each s [] = s
after_each s (e ∷ es) = after_each (after s e nothing) es
