use Rattle.std.proofs.Common.{take}
use Rattle.std.specs.Prelude.{filter}
use Rattle.std.specs.List.{AllZip}
use Rattle.yw_accept.specs.Built.{IsTaskCalled}
use Rattle.yw_accept.specs.Nodes.{is_task}
use Rattle.yw_build.proofs.removals.removed_tasks.Given as goal

abbrev pub invariant-loop-text : goal.invariant-loop-text
invariant-loop-text l = AllZip (IsTaskCalled l.numbers.said.now) (filter (is_task l.numbers.said.now) (take l.text-index l.texts)) l.tasks
