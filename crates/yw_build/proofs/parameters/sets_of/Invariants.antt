use Rattle.std.proofs.Common.{take}
use Rattle.std.specs.List.{AllZip}
use Rattle.yw_accept.specs.Built.{IsAssign}
use Rattle.yw_build.proofs.parameters.sets_of.Given as goal

abbrev pub invariant-loop-assignment : goal.invariant-loop-assignment
invariant-loop-assignment l = AllZip (IsAssign l.numbers.said.now l.task) (take l.assignment-index l.task.set) l.sets
