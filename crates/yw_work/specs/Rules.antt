-- What an added rule changes of the work. Our own.
use Rattle.std.specs.Prelude.{◌&&◌, Bool, false, not}
use Rattle.yw_state.specs.Judged.{has_rules, is_select}
use Rattle.yw_state.specs.State.{State}
use Rattle.yw_state.specs.declared.event.Event.{Event}
use Rattle.yw_state.specs.declared.event.Event.TheVariants as events

-- the first rule by which worklets are chosen for a task: its items are no person's any more
abbrev pub is_first_choice : State → Event → Bool
is_first_choice s (events.AddRule p at side when conclusion number) = is_select p.kind && not (has_rules s p)
is_first_choice s e = false
