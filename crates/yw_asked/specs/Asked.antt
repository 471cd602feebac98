-- Commands that have an event. Our own.
use Rattle.std.specs.Prelude.{None}
use Rattle.yw_state.specs.Broken.{Breaks}
use Rattle.yw_state.specs.Events.{Leads}
use Rattle.yw_state.specs.Legal.{IsAsked}
use Rattle.yw_state.specs.State.{State}
use Rattle.yw_state.specs.Texts.{Reader}
use Rattle.yw_state.specs.declared.command.Command.{Command}
use Rattle.yw_state.specs.declared.event.Event.{Event}

-- an event that the command asks for is allowed, and leads to a state
abbrev pub HasEvent : Reader → State → Command → Type 0
HasEvent reader s c = (e : Event) × (t : State) × IsAsked reader s c e × Leads reader s e t

-- it has one where it breaks no rule
abbrev pub HasEventUnbroken : Reader → State → Command → Type 0
HasEventUnbroken reader s c = Breaks reader s c None → HasEvent reader s c
