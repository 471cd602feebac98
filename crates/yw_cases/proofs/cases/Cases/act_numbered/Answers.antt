use Rattle.std.proofs.Common.{subst, sym}
use Rattle.yw_cases.proofs.Numbered.{has_number, numbered_plain}
use Rattle.yw_cases.proofs.Resting.{rested_done}
use Rattle.yw_cases.proofs.cases.Cases.act_numbered.Goals as goal
use Rattle.yw_cases.specs.Tried.{IsNumbered}
use Rattle.yw_standing.specs.Tried.{LeadsOn}
use Rattle.yw_standing.specs.declared.standing.Standing.{Standing}

pub act_numbered-requires-clause-kind : goal.act_numbered-requires-clause-kind
act_numbered-requires-clause-kind c = has_number c.args.self.now c.args.event.now c.args.number c.requires.numbered

pub act_numbered-requires-clause-leads : goal.act_numbered-requires-clause-leads
act_numbered-requires-clause-leads c = subst (λ (h : Standing). LeadsOn h c.args.event.now) (sym c.self.view_is) c.requires.leads

pub act_numbered-requires-clause-numbered : goal.act_numbered-requires-clause-numbered
act_numbered-requires-clause-numbered c = subst (λ (h : Standing). IsNumbered h c.args.event.now c.args.number) (sym c.self.view_is) c.requires.numbered

pub invariant_of-self : goal.invariant_of-self
invariant_of-self c =
    rested_done c.self.inside.standing c.self.inside.loose c.self.invariant c.args.event.now c.act_numbered.new.standing c.after.new.self
    (numbered_plain c.args.event.now (has_number c.args.self.now c.args.event.now c.args.number c.requires.numbered)) c.in-Ok.ensures c.after.ensures
