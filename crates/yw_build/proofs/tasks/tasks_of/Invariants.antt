use Rattle.std.proofs.Common.{take}
use Rattle.std.specs.List.{AllZip}
use Rattle.yw_accept.specs.Built.{IsTask}
use Rattle.yw_build.proofs.tasks.tasks_of.Given as goal

abbrev pub invariant-loop-number : goal.invariant-loop-number
invariant-loop-number l = AllZip (IsTask l.spec.said.now l.numbers.said.now) (take l.number l.numbers.said.now.task) l.tasks
