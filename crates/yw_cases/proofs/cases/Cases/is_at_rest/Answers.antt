use Rattle.std.proofs.Common.{subst}
use Rattle.yw_cases.proofs.Trying.{words_of}
use Rattle.yw_cases.proofs.cases.Cases.is_at_rest.Goals as goal
use Rattle.yw_standing.specs.State.{state_of}
use Rattle.yw_standing.specs.declared.standing.Standing.{Standing}
use Rattle.yw_state.specs.Automatic.{IsQuiet}

pub returns : goal.returns
returns c = λ known.
    subst (λ (h : Standing). IsQuiet (state_of h) c.args.n) c.self.view_is
    (c.is_at_rest.ensures.quiet known (state_of c.self.inside.standing) c.self.invariant.rested
    ((words_of c.self.inside.standing c.self.invariant.stands).urgent c.args.n))
