-- Whether an event leads on, and what it leads to.
use Rattle.std.specs.Prelude.{Bool, false, true}
use Rattle.yw_standing.specs.State.{state_of}
use Rattle.yw_standing.specs.declared.standing.Standing.{Standing}
use Rattle.yw_state.specs.Events.{Leads}
use Rattle.yw_state.specs.State.{State}
use Rattle.yw_state.specs.declared.event.Event.{Event}
use Rattle.yw_texts.specs.Texts.{reader}
use Rattle.yw_tree.specs.Forest.{IsForest}

-- the event leads nowhere
abbrev pub LeadsNowhere : Standing → Event → Type 0
LeadsNowhere old e = (t : State) → Leads reader (state_of old) e t → ⊥

-- the event is allowed, and leads to a state
abbrev pub LeadsOn : Standing → Event → Type 0
LeadsOn old e = (t : State) × Leads reader (state_of old) e t

-- whether it does
abbrev pub TellsLeads : Standing → Event → Bool → Type 0
TellsLeads old e true = LeadsOn old e
TellsLeads old e false = LeadsNowhere old e

-- The event leads on, and the forest is well boxed.
pub record IsDone (old : Standing) (e : Event) (new : Standing) : Type 0 where
  pub leads : Leads reader (state_of old) e (state_of new)
  pub boxed : IsForest new.forest
