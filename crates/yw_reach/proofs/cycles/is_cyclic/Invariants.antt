use Rattle.std.proofs.Common.{◌+◌, length, sum}
use Rattle.yw_reach.proofs.TrimmingLemmas.{Trimmed}
use Rattle.yw_reach.proofs.cycles.is_cyclic.Given as goal

abbrev pub invariant-free : goal.invariant-free
invariant-free l = Trimmed l.count l.flows l.trimming.incoming.items l.trimming.free.items

abbrev pub decreases-free : goal.decreases-free
decreases-free l = sum l.trimming.incoming.items + length l.trimming.free.items
