use Rattle.std.proofs.Common.{◌≡◌, ◌++◌, take, true}
use Rattle.std.specs.List.{flat_map, list_all}
use Rattle.yw_built.specs.Built.{is_built}
use Rattle.yw_codec.specs.Events.{event_bytes, is_event}
use Rattle.yw_codec.proofs.entry.push_events.Given as goal

abbrev pub invariant-loop-event : goal.invariant-loop-event
invariant-loop-event l = (l.out.items ≡ l.fn.out.items ++ flat_map event_bytes (take l.event-index l.events)) × (list_all is_event (take l.event-index l.events) ≡ true) × (list_all is_built (take l.event-index l.events) ≡ true)
