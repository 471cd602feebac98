use Rattle.std.proofs.Common.{Option, Some, None, subst}
use Rattle.yw_accept.specs.declared.broken.Broken.{Broken}
use Rattle.yw_accept.specs.Verdict.{IsVerdict}
use Rattle.yw_accept.proofs.Once.{verdict-once}
use Rattle.yw_check.proofs.JudgedLemmas.{answers_from}
use Rattle.yw_check.proofs.verdict.check.Goals as goal

pub returns-in-Some-clause-only : goal.returns-in-Some-clause-only
returns-in-Some-clause-only c = λ found h.
    answers_from c.fault.result c.in-Some.broken found c.fault.ensures (verdict-once c.args.raw found (Some c.in-Some.broken) h (subst (λ (r : Option Broken). IsVerdict c.args.raw r) c.in-Some.is c.in_ok-broken.ensures))

pub returns-clause-only : goal.returns-clause-only
returns-clause-only c = λ found h. verdict-once c.args.raw found None h (subst (λ (r : Option Broken). IsVerdict c.args.raw r) c.in-None.is c.in_ok-broken.ensures)
