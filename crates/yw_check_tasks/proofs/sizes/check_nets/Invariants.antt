use Rattle.yw_accept.proofs.Loops.{SoFar}
use Rattle.yw_accept.specs.Tasks.{NetIsSmall}
use Rattle.yw_check_tasks.proofs.sizes.check_nets.Given as goal

abbrev pub invariant-loop-net : goal.invariant-loop-net
invariant-loop-net l = SoFar NetIsSmall l.nets l.net-index
