use Rattle.yw_known.proofs.upstreams.rows_of.Given as goal
use Rattle.yw_known.specs.Upstreams.{HaveRows}

abbrev pub invariant-loop-number : goal.invariant-loop-number
invariant-loop-number l = HaveRows l.library.specs l.rows l.number
