use Rattle.std.proofs.Common.{take}
use Rattle.std.specs.List.{filter_map}
use Rattle.yw_worklist.proofs.people.People.ask_events.Given as goal
use Rattle.yw_worklist.specs.People.{Asks, person_of}

abbrev pub invariant-loop-event : goal.invariant-loop-event
invariant-loop-event l = Asks l.known l.fn.self l.self (filter_map person_of (take l.event-index l.events))
