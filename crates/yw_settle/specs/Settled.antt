-- What comes of itself in a case, one event after another, as a machine takes it and tells it. Our own.
use Rattle.std.specs.Prelude.{◌≡◌, ℕ, Bool, true, List, ◌++◌, length, Option, Some, None}
use Rattle.std.specs.List.{list_all}
use Rattle.yw_texts.specs.Texts.{reader}
use Rattle.yw_settle.specs.declared.entry.Entry.{Entry}
use Rattle.yw_state.specs.Automatic.{ComeAll, Comes, IsQuiet, after_each}
use Rattle.yw_state.specs.Broken.{Breaks}
use Rattle.yw_state.specs.Events.{Leads, after}
use Rattle.yw_state.specs.Legal.{IsAsked, IsLegal}
use Rattle.yw_state.specs.State.{State}
use Rattle.yw_state.specs.Texts.{nothing}
use Rattle.yw_state.specs.declared.command.Command.{Command}
use Rattle.yw_state.specs.declared.event.Event.{Event}
use Rattle.yw_turns.specs.Turns.{RunsOut}

-- In state s nothing comes of itself in case n, and the state stays; or this event comes of itself, passes the test, and leads to t.
abbrev pub IsStep : (Event → Bool) → State → ℕ → Option Event → State → Type 0
IsStep passes s n None t = IsQuiet s n × (t ≡ s)
IsStep passes s n (Some e) t = Comes s n e × (t ≡ after s e nothing) × (passes e ≡ true)

-- Behind the events told before stand so many that came of themselves in case n in their turn, and lead from s to t. Each passes the test.
pub record HaveCome (passes : Event → Bool) (s : State) (n : ℕ) (before : List Event) (t : State) (told : List Event) (count : ℕ) : Type 0 where
  pub came : List Event
  pub in_order : told ≡ before ++ came
  pub in_turn : ComeAll s n came
  pub then : t ≡ after_each s came
  pub counted : length came ≡ count
  pub pass : list_all passes came ≡ true

-- Behind the events told before stand those that came of themselves in case n until it was quiet or the budget was spent. They lead from s to t,
-- and each passes the test.
pub record IsSettled (passes : Event → Bool) (s : State) (n : ℕ) (before : List Event) (t : State) (told : List Event) (quiet : Bool) : Type 0 where
  pub came : List Event
  pub in_order : told ≡ before ++ came
  pub runs_out : RunsOut s n came quiet t
  pub pass : list_all passes came ≡ true

-- The entry may answer each command that breaks no rule and asks for this event, which leads to mid. The entry leads to t.
abbrev pub AnswersWith : Event → State → State → Entry → Type 0
AnswersWith first mid t entry =
    (s : State) (c : Command) → Breaks reader s c None → IsAsked reader s c first → Leads reader s first mid
    → IsLegal reader s c entry.events entry.quiet t
