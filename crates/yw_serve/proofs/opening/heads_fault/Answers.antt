use Rattle.std.proofs.Common.{◌==◌, not, Option, sym, ◌∙◌, subst}
use Rattle.yw_serve.specs.Opening.{IsHeadRead}
use Rattle.yw_serve.specs.declared.header.Head.{Head}
use Rattle.yw_serve.proofs.OpenHeads.{header_found, header_passed, later_found, snapshot_same}
use Rattle.yw_serve.proofs.opening.heads_fault.Goals as goal

pub returns-in-Some-header_fault-clause-damage : goal.returns-in-Some-header_fault-clause-damage
returns-in-Some-header_fault-clause-damage c = λ i a b.
    header_found i c.in-Some.head c.in-Some-header_fault.place (subst (λ (o : Option Head). IsHeadRead i.a o) c.in-Some.is a) (sym c.in-Some-header_fault.is ∙ c.header_fault.ensures.damage)

pub returns-in-None-clause-damage : goal.returns-in-None-clause-damage
returns-in-None-clause-damage c = λ i a b.
    let read = subst (λ (o : Option Head). IsHeadRead i.a o) c.in-Some.is a in
    header_passed i c.in-Some.head c.later_fault-in-None.result read (sym c.in-None.is ∙ c.header_fault.ensures.damage)
    (later_found i c.args.b.now (not (c.u64_in.result == 0)) c.later_fault-in-None.result b (snapshot_same i c.in-Some.head c.u64_in.result read c.u64_in.ensures)
    c.later_fault-in-None.ensures.live c.later_fault-in-None.ensures.snapshot)
