use Rattle.std.proofs.Common.{take}
use Rattle.std.specs.List.{AllZip}
use Rattle.yw_accept.specs.Built.{IsBranch}
use Rattle.yw_build.proofs.branches.branches_of.Given as goal

abbrev pub invariant-loop-branch : goal.invariant-loop-branch
invariant-loop-branch l = AllZip (IsBranch l.numbers.said.now l.task) (take l.branch-index l.task.branch) l.branches
