-- Which events the server does today. What is missing comes with further commands. Our own.
use Rattle.std.specs.Prelude.{Bool, true, false}
use Rattle.yw_state.specs.declared.event.Event.{Event}
use Rattle.yw_state.specs.declared.event.Event.TheVariants as events

-- those of neither a rule tree nor the run of an exlet
abbrev pub is_built : Event → Bool
is_built (events.Person name roles) = true
is_built (events.Load name text) = true
is_built (events.Launch n spec vals) = true
is_built (events.Enter i t places first count) = true
is_built (events.Start j who) = true
is_built (events.Complete j out) = true
is_built (events.Exit i t places) = true
is_built (events.Add i t value n) = true
is_built (events.Finish n) = true
is_built (events.Cancel n) = true
is_built (events.StartSub j) = true
is_built (events.CompleteSub j) = true
is_built (events.CompleteEmpty j) = true
is_built (events.Suspend j) = true
is_built (events.Continue j) = true
is_built (events.Advance n) = true
is_built event = false
