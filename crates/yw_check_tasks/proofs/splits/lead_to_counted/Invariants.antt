use Rattle.std.proofs.Common.{◌≡◌, true, take}
use Rattle.std.specs.List.{list_all}
use Rattle.yw_check_tasks.specs.Outputs.{is_counted}
use Rattle.yw_check_tasks.proofs.splits.lead_to_counted.Given as goal

abbrev pub invariant-loop-branch : goal.invariant-loop-branch
invariant-loop-branch l = list_all (is_counted l.outputs) (take l.branch-index l.branches) ≡ true
