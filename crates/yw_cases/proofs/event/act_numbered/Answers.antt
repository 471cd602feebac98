use Rattle.std.proofs.Common.{subst}
use Rattle.yw_cases.proofs.event.act_numbered.Goals as goal
use Rattle.yw_cases.specs.Tried.{IsNumbered}
use Rattle.yw_standing.specs.Tried.{LeadsOn}
use Rattle.yw_state.specs.declared.event.Event.{Event}

pub act_launch-requires-clause-leads : goal.act_launch-requires-clause-leads
act_launch-requires-clause-leads c = subst (LeadsOn c.args.standing.now) c.in-Launch.is c.requires.leads

pub act_launch-requires-clause-number : goal.act_launch-requires-clause-number
act_launch-requires-clause-number c = subst (λ (e : Event). IsNumbered c.args.standing.now e c.args.number) c.in-Launch.is c.requires.numbered

pub act_add-requires-clause-leads : goal.act_add-requires-clause-leads
act_add-requires-clause-leads c = subst (LeadsOn c.args.standing.now) c.in-Add.is c.requires.leads

pub act_add-requires-clause-number : goal.act_add-requires-clause-number
act_add-requires-clause-number c = subst (λ (e : Event). IsNumbered c.args.standing.now e c.args.number) c.in-Add.is c.requires.numbered
