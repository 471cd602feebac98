-- Where an event of neither a rule tree nor an exlet is done, and what it makes. Our own.
use Rattle.std.specs.Prelude.{List, [], ◌∷◌, map, Option, Some, None}
use Rattle.std.specs.List.{range_with_len}
use Rattle.yw_state.specs.Identity.{Ident, case_ident}
use Rattle.yw_base.specs.Identity.{child}
use Rattle.yw_state.specs.declared.event.Event.{Event}
use Rattle.yw_state.specs.declared.event.Event.TheVariants as events

-- the net or the item at which it is done
abbrev pub done_at : Event → Option Ident
done_at (events.Enter i t places first count) = Some i
done_at (events.Start j who) = Some j
done_at (events.Complete j out) = Some j
done_at (events.Exit i t places) = Some i
done_at (events.Add i t value n) = Some i
done_at (events.StartSub j) = Some j
done_at (events.CompleteSub j) = Some j
done_at (events.CompleteEmpty j) = Some j
done_at e = None

-- the case or the items that it makes
abbrev pub made_by : Event → List Ident
made_by (events.Launch n spec vals) = case_ident n ∷ []
made_by (events.Enter i t places first count) = map (child i) (range_with_len first count)
made_by (events.Add i t value n) = child i n ∷ []
made_by e = []
