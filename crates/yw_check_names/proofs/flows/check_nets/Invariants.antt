use Rattle.std.proofs.Common.{[]}
use Rattle.yw_read.specs.declared.raw.RawNet.{RawNet}
use Rattle.yw_accept.specs.Names.{FlowFits}
use Rattle.yw_accept.specs.Order.{InTurn}
use Rattle.yw_accept.proofs.Loops.{SoFar}
use Rattle.yw_check_names.proofs.flows.check_nets.Given as goal

abbrev pub invariant-loop-net : goal.invariant-loop-net
invariant-loop-net l = SoFar (λ (net : RawNet). InTurn (FlowFits net) [] net.flows) l.nets l.net-index
