use Rattle.yw_loose.proofs.Following.{AreLeftTo}
use Rattle.yw_loose.proofs.counts.counts_left.Given as goal

abbrev pub invariant-loop-t : goal.invariant-loop-t
invariant-loop-t l = AreLeftTo l.net l.t l.fn.counts.items l.counts.items
