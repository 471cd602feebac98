use Rattle.std.proofs.Common.{subst, sym}
use Rattle.yw_engine.proofs.decide.decide_on.Goals as goal
use Rattle.yw_engine.specs.Decides.{TellsRestOf}
use Rattle.yw_standing.specs.declared.standing.Standing.{Standing}

pub decide_seen-requires-clause-rest : goal.decide_seen-requires-clause-rest
decide_seen-requires-clause-rest c =
    subst (λ (h : Standing). TellsRestOf h c.args.command c.in_ok-quiet.quiet) (sym c.look_at.ensures.same) c.in_ok-quiet.ensures.rest
