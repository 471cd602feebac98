use Rattle.std.proofs.Common.{◌≡◌, ◌≤◌, take}
use Rattle.std.specs.List.{count_by}
use Rattle.yw_serve.specs.Summary.{is_finish}
use Rattle.yw_serve.proofs.summary.finished_in.Given as goal

abbrev pub invariant-loop-event : goal.invariant-loop-event
invariant-loop-event l = record {
  count : l.count ≡ count_by is_finish (take l.event-index l.entry);
  few : l.count ≤ l.event-index;
}
