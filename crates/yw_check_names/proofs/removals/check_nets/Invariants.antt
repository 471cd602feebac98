use Rattle.yw_read.specs.declared.raw.RawNet.{RawNet}
use Rattle.yw_accept.specs.Names.{RemovalFits}
use Rattle.yw_accept.specs.Order.{InOrder}
use Rattle.yw_accept.proofs.Loops.{SoFar}
use Rattle.yw_check_names.proofs.removals.check_nets.Given as goal

abbrev pub invariant-loop-net : goal.invariant-loop-net
invariant-loop-net l = SoFar (λ (net : RawNet). InOrder (RemovalFits net) net.task) l.nets l.net-index
