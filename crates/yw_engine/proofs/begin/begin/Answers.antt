use Rattle.yw_engine.proofs.begin.begin.Goals as goal
use Rattle.yw_standing.specs.State.{state_of}
use Rattle.yw_walk.proofs.Plainly.{nothing_of}

pub take-requires-clause-computed : goal.take-requires-clause-computed
take-requires-clause-computed c = nothing_of (state_of c.args.work.now.standing) c.args.event c.requires.plain
