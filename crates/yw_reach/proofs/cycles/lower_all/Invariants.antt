use Rattle.std.proofs.Common.{take}
use Rattle.yw_reach.specs.Trimming.{Lowers}
use Rattle.yw_reach.proofs.cycles.lower_all.Given as goal

abbrev pub invariant-loop-node : goal.invariant-loop-node
invariant-loop-node l = Lowers (take l.node-index l.row) l.fn.trimming.incoming.items l.fn.trimming.free.items l.trimming.incoming.items l.trimming.free.items
