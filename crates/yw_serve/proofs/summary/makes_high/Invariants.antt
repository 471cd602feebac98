use Rattle.std.proofs.Common.{◌≡◌, false, take}
use Rattle.yw_serve.specs.Summary.{makes_high}
use Rattle.yw_serve.proofs.summary.makes_high.Given as goal

abbrev pub invariant-loop-event : goal.invariant-loop-event
invariant-loop-event l = makes_high (take l.event-index l.entry) l.item ≡ false
