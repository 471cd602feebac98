use Rattle.std.proofs.Common.{◌≡◌, Bool, true}
use Rattle.std.specs.List.{list_all}
use Rattle.std.specs.Vec.Iter.{into_iter_items}
use Rattle.yw_engine.specs.Held as engine
use Rattle.yw_built.specs.Built.{is_built}
use Rattle.yw_state.specs.State.{State}
use Rattle.yw_serve.specs.Opening.{AreApplied}
use Rattle.yw_serve.proofs.opening_entries.apply_events.Given as goal

-- what comes of the further events from here on comes of all from the start
abbrev pub invariant-loop-event : goal.invariant-loop-event
invariant-loop-event l =
    (goal.iterator-loop-event).can_next l.event-iterator ×
    (goal.iterator-loop-event).is_finite l.event-iterator ×
    ((allowed : Bool) (t : State) → AreApplied (engine.state_of l.engine) (into_iter_items l.event-iterator) allowed t → AreApplied (engine.state_of l.fn.engine) l.fn.events.items allowed t) ×
    (list_all is_built (into_iter_items l.event-iterator) ≡ true)
