use Rattle.std.proofs.Common.{subst, sym}
use Rattle.yw_cases.proofs.Resting.{rested_done}
use Rattle.yw_cases.proofs.cases.Cases.act.Goals as goal
use Rattle.yw_standing.specs.State.{state_of}
use Rattle.yw_standing.specs.Tried.{LeadsOn}
use Rattle.yw_standing.specs.declared.standing.Standing.{Standing}
use Rattle.yw_walk.specs.Computed.{IsComputedOf}

pub act-requires-clause-leads : goal.act-requires-clause-leads
act-requires-clause-leads c = subst (λ (h : Standing). LeadsOn h c.args.event.now) (sym c.self.view_is) c.requires.leads

pub act-requires-clause-computed : goal.act-requires-clause-computed
act-requires-clause-computed c =
    subst (λ (h : Standing). IsComputedOf (state_of h) c.args.event.now c.args.computed) (sym c.self.view_is) c.requires.computed

pub invariant_of-self : goal.invariant_of-self
invariant_of-self c =
    rested_done c.self.inside.standing c.self.inside.loose c.self.invariant c.args.event.now c.act.new.standing c.after.new.self c.requires.plain c.in-Ok.ensures c.after.ensures
