use Rattle.std.proofs.Common.{subst, take_all}
use Rattle.std.specs.List.{filter_map}
use Rattle.yw_worklist.proofs.Asking.{event_asked, none_asked}
use Rattle.yw_worklist.proofs.people.People.ask_events.Goals as goal
use Rattle.yw_worklist.specs.People.{Asks, person_of}

pub loop-event-init : goal.loop-event-init
loop-event-init c = none_asked c.args.known.now c.args.self.now

pub loop-event-preserved : goal.loop-event-preserved
loop-event-preserved c =
    event_asked c.args.known.now c.args.self.now c.loop-event.self c.ask_event.new.self c.args.events.now c.loop-event.event-index c.event-item.result
    c.loop-event-test.true c.event-item.is c.loop-event.invariant c.in_ok-ask_event.ensures

pub returns : goal.returns
returns c =
    subst (λ es. Asks c.args.known.now c.args.self.now c.loop-event.self (filter_map person_of es))
    (take_all c.loop-event.event-index c.args.events.now c.loop-event-test.false) c.loop-event.invariant
