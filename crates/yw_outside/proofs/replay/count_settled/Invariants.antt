use Rattle.yw_outside.proofs.Settled.{IsSettled}
use Rattle.yw_outside.proofs.replay.count_settled.Given as goal

abbrev pub invariant-loop-k : goal.invariant-loop-k
invariant-loop-k l = IsSettled l.f l.log l.k l.settled
