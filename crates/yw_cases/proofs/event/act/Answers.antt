use Rattle.std.proofs.Common.{subst}
use Rattle.yw_cases.proofs.event.act.Goals as goal
use Rattle.yw_standing.specs.State.{state_of}
use Rattle.yw_standing.specs.Tried.{LeadsOn}
use Rattle.yw_state.specs.declared.event.Event.{Event}
use Rattle.yw_walk.specs.Computed.{IsComputedOf}

pub act_enter-requires-clause-leads : goal.act_enter-requires-clause-leads
act_enter-requires-clause-leads c = subst (LeadsOn c.args.standing.now) c.in-Enter.is c.requires.leads

pub act_enter-requires-clause-computed : goal.act_enter-requires-clause-computed
act_enter-requires-clause-computed c = subst (λ (e : Event). IsComputedOf (state_of c.args.standing.now) e c.args.computed) c.in-Enter.is c.requires.computed

pub act_exit-requires-clause-leads : goal.act_exit-requires-clause-leads
act_exit-requires-clause-leads c = subst (LeadsOn c.args.standing.now) c.in-Exit.is c.requires.leads

pub act_exit-requires-clause-computed : goal.act_exit-requires-clause-computed
act_exit-requires-clause-computed c = subst (λ (e : Event). IsComputedOf (state_of c.args.standing.now) e c.args.computed) c.in-Exit.is c.requires.computed
