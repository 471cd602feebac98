use Rattle.std.proofs.Common.{subst, sym}
use Rattle.yw_cases.proofs.Ending.{advances_so}
use Rattle.yw_cases.proofs.event.act_plainly.Goals as goal
use Rattle.yw_standing.specs.Tried.{IsDone, LeadsOn}

pub act_person-requires-clause-leads : goal.act_person-requires-clause-leads
act_person-requires-clause-leads c = subst (LeadsOn c.args.standing.now) c.in-Person.is c.requires.leads

pub act_start-requires-clause-leads : goal.act_start-requires-clause-leads
act_start-requires-clause-leads c = subst (LeadsOn c.args.standing.now) c.in-Start.is c.requires.leads

pub act_complete-requires-clause-leads : goal.act_complete-requires-clause-leads
act_complete-requires-clause-leads c = subst (LeadsOn c.args.standing.now) c.in-Complete.is c.requires.leads

pub act_finish-requires-clause-leads : goal.act_finish-requires-clause-leads
act_finish-requires-clause-leads c = subst (LeadsOn c.args.standing.now) c.in-Finish.is c.requires.leads

pub act_cancel-requires-clause-leads : goal.act_cancel-requires-clause-leads
act_cancel-requires-clause-leads c = subst (LeadsOn c.args.standing.now) c.in-Cancel.is c.requires.leads

pub act_start_sub-requires-clause-leads : goal.act_start_sub-requires-clause-leads
act_start_sub-requires-clause-leads c = subst (LeadsOn c.args.standing.now) c.in-StartSub.is c.requires.leads

pub act_complete_sub-requires-clause-leads : goal.act_complete_sub-requires-clause-leads
act_complete_sub-requires-clause-leads c = subst (LeadsOn c.args.standing.now) c.in-CompleteSub.is c.requires.leads

pub act_complete_empty-requires-clause-leads : goal.act_complete_empty-requires-clause-leads
act_complete_empty-requires-clause-leads c = subst (LeadsOn c.args.standing.now) c.in-CompleteEmpty.is c.requires.leads

pub act_suspend-requires-clause-held : goal.act_suspend-requires-clause-held
act_suspend-requires-clause-held c = c.requires.stands.held

pub act_suspend-requires-clause-leads : goal.act_suspend-requires-clause-leads
act_suspend-requires-clause-leads c = subst (LeadsOn c.args.standing.now) c.in-Suspend.is c.requires.leads

pub act_continue-requires-clause-held : goal.act_continue-requires-clause-held
act_continue-requires-clause-held c = c.requires.stands.held

pub act_continue-requires-clause-leads : goal.act_continue-requires-clause-leads
act_continue-requires-clause-leads c = subst (LeadsOn c.args.standing.now) c.in-Continue.is c.requires.leads

pub returns-in-Advance : goal.returns-in-Advance
returns-in-Advance c =
    subst (λ e. IsDone c.args.standing.now e c.args.standing.now) (sym c.in-Advance.is)
    (advances_so c.args.standing.now c.requires.stands _ (subst (LeadsOn c.args.standing.now) c.in-Advance.is c.requires.leads))
