-- What commands and events do to a library in each state with this library in it, whatever else the state has. Our own.
use Rattle.std.specs.Prelude.{◌≡◌, Bool, true, false, Option}
use Rattle.yw_library.specs.Holdings.{Holdings, with_library}
use Rattle.yw_texts.specs.Texts.{reader}
use Rattle.yw_state.specs.Broken.{Breaks}
use Rattle.yw_state.specs.Events.{Leads}
use Rattle.yw_state.specs.State.{State}
use Rattle.yw_state.specs.declared.command.Command.{Command}
use Rattle.yw_state.specs.declared.event.Event.{Event}
use Rattle.yw_state.specs.declared.rule.Refusal.{Refusal}

-- this is the first rule that the command breaks, or it breaks none
abbrev pub AlwaysBreaks : Holdings → Command → Option Refusal → Type 0
AlwaysBreaks library c found = (s : State) → Breaks reader (with_library s library) c found

-- the event is allowed, and leads to the same with the second library in place of the first
abbrev pub AlwaysLeads : Holdings → Event → Holdings → Type 0
AlwaysLeads old e new = (s : State) → Leads reader (with_library s old) e (with_library s new)

-- the event leads nowhere
abbrev pub NeverLeads : Holdings → Event → Type 0
NeverLeads library e = (s t : State) → Leads reader (with_library s library) e t → ⊥

-- whether the event leads on; where it doesn't, nothing has changed
abbrev pub IsTried : Holdings → Event → Bool → Holdings → Type 0
IsTried old e true new = AlwaysLeads old e new
IsTried old e false new = NeverLeads old e × (new ≡ old)
