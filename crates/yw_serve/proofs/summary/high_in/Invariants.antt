use Rattle.std.proofs.Common.{◌≡◌, ◌≤◌, take}
use Rattle.std.specs.List.{count_by}
use Rattle.yw_serve.specs.Summary.{completes_high}
use Rattle.yw_serve.proofs.summary.high_in.Given as goal

abbrev pub invariant-loop-event : goal.invariant-loop-event
invariant-loop-event l = record {
  count : l.count ≡ count_by (completes_high l.entry) (take l.event-index l.entry);
  few : l.count ≤ l.event-index;
}
