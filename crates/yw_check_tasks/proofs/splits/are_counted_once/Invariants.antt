use Rattle.std.proofs.Common.{◌≡◌, true, take}
use Rattle.std.specs.List.{list_all}
use Rattle.yw_check_tasks.specs.Outputs.{is_counted_once}
use Rattle.yw_check_tasks.proofs.splits.are_counted_once.Given as goal

abbrev pub invariant-loop-output : goal.invariant-loop-output
invariant-loop-output l = list_all (is_counted_once l.branches) (take l.output-index l.outputs) ≡ true
