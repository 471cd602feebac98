use Rattle.std.proofs.Common.{take}
use Rattle.std.specs.List.{AllZip}
use Rattle.yw_accept.specs.Built.{IsNet}
use Rattle.yw_build.proofs.nets.nets_of.Given as goal

abbrev pub invariant-loop-net : goal.invariant-loop-net
invariant-loop-net l = AllZip (IsNet l.spec.said.now) (take l.net-index l.spec.said.now.net) l.nets
