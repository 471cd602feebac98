use Rattle.yw_accept.proofs.Loops.{SoFar}
use Rattle.yw_check_sorts.specs.Agreeing.{NetParametersAgree}
use Rattle.yw_check_sorts.proofs.parameters.check_nets.Given as goal

abbrev pub invariant-loop-net : goal.invariant-loop-net
invariant-loop-net l = SoFar (NetParametersAgree l.raw) l.raw.net l.net-index
