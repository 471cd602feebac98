use Rattle.std.proofs.Common.{subst, sym}
use Rattle.yw_engine.proofs.Coming.{next_apart, next_computed, next_on, stepped}
use Rattle.yw_engine.proofs.work.WorkMachine.step.Goals as goal
use Rattle.yw_standing.specs.State.{state_of}
use Rattle.yw_standing.specs.Tried.{LeadsOn}
use Rattle.yw_standing.specs.declared.standing.Standing.{Standing}
use Rattle.yw_walk.specs.Computed.{IsComputedOf}

pub take-requires-clause-apart : goal.take-requires-clause-apart
take-requires-clause-apart c =
    next_apart c.args.self.now.standing c.requires c.args.case c.in_ok-found.field-0 c.in-Some.found c.in-Some.is c.in_ok-found.ensures.found

pub take-requires-clause-leads : goal.take-requires-clause-leads
take-requires-clause-leads c =
    subst (λ (h : Standing). LeadsOn h c.in-Some.found.event) (sym c.next_loose.ensures.same)
    (next_on c.args.self.now.standing c.requires c.args.case c.in_ok-found.field-0 c.in-Some.found c.in-Some.is c.in_ok-found.ensures.found)

pub take-requires-clause-computed : goal.take-requires-clause-computed
take-requires-clause-computed c =
    subst (λ (h : Standing). IsComputedOf (state_of h) c.in-Some.found.event c.in-Some.found.computed) (sym c.next_loose.ensures.same)
    (next_computed c.args.self.now.standing c.requires c.args.case c.in_ok-found.field-0 c.in-Some.found c.in-Some.is c.in_ok-found.ensures.found)

pub returns-clause-found : goal.returns-clause-found
returns-clause-found c =
    stepped c.args.self.now.standing c.requires c.args.case c.in_ok-found.field-0 c.in-Some.found c.next_loose.new.self.standing c.take.new.self.standing
    c.in-Some.is c.in_ok-found.ensures.found c.in_ok-found.ensures.same c.in_ok-take.ensures
