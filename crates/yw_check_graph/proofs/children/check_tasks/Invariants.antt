use Rattle.yw_accept.proofs.Loops.{SoFar}
use Rattle.yw_check_graph.specs.Nets.{NetChildrenFit}
use Rattle.yw_check_graph.proofs.children.check_tasks.Given as goal

abbrev pub invariant-loop-number : goal.invariant-loop-number
invariant-loop-number l = SoFar (NetChildrenFit l.raw) l.raw.net l.number
