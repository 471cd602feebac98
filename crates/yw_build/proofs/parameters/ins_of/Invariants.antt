use Rattle.std.proofs.Common.{take}
use Rattle.std.specs.List.{AllZip}
use Rattle.yw_accept.specs.Built.{IsParam}
use Rattle.yw_build.proofs.parameters.ins_of.Given as goal

abbrev pub invariant-loop-parameter : goal.invariant-loop-parameter
invariant-loop-parameter l = AllZip (IsParam l.numbers.said.now) (take l.parameter-index l.said) l.ins
