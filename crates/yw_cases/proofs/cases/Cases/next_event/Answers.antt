use Rattle.std.proofs.Common.{IfOk, subst}
use Rattle.std.specs.Prelude.{MatchOption}
use Rattle.yw_cases.proofs.Resting.{found_so, rested_looked}
use Rattle.yw_cases.proofs.cases.Cases.next_event.Goals as goal
use Rattle.yw_standing.specs.State.{state_of}
use Rattle.yw_standing.specs.declared.standing.Standing.{Standing}
use Rattle.yw_state.specs.Automatic.{IsQuiet}
use Rattle.yw_walk.specs.Finds.{IsFound}

pub invariant_of-self : goal.invariant_of-self
invariant_of-self c = rested_looked c.self.inside.standing c.self.inside.loose c.self.invariant c.args.n c.next_event.new.self c.next_event.ensures.rested

pub returns-clause-found : goal.returns-clause-found
returns-clause-found c =
    subst (λ (h : Standing). IfOk c.next_event.result (λ found. MatchOption found (IsQuiet (state_of h) c.args.n) (IsFound (state_of h) c.args.n))) c.self.view_is
    (found_so c.self.inside.standing c.self.inside.loose c.self.invariant c.args.n c.next_event.result c.next_event.ensures.found)
