use Rattle.std.proofs.Common.{refl, subst}
use Rattle.yw_cases.specs.Tried.{MayAct, TellsComputed}
use Rattle.yw_engine.proofs.Coming.{built_is_plain}
use Rattle.yw_engine.proofs.work.Work.apply.Goals as goal

pub may-requires-clause-plain : goal.may-requires-clause-plain
may-requires-clause-plain c = built_is_plain c.args.event.now c.requires.built

pub returns-in_default-clause-applied : goal.returns-in_default-clause-applied
returns-in_default-clause-applied c = (subst (TellsComputed c.args.self.now.standing c.args.event.now) c.in_default.is c.in_ok-computed.ensures, refl)

pub take-requires-clause-leads : goal.take-requires-clause-leads
take-requires-clause-leads c =
    let act : MayAct c.args.self.now.standing c.args.event.now c.in-Some.computed =
    subst (TellsComputed c.args.self.now.standing c.args.event.now) c.in-Some.is c.in_ok-computed.ensures in
    act.leads

pub take-requires-clause-computed : goal.take-requires-clause-computed
take-requires-clause-computed c =
    let act : MayAct c.args.self.now.standing c.args.event.now c.in-Some.computed =
    subst (TellsComputed c.args.self.now.standing c.args.event.now) c.in-Some.is c.in_ok-computed.ensures in
    act.computed
