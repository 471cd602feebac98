use Rattle.std.proofs.Common.{◌+◌, ℕ, List, take, ap, ◌∙◌, subst}
use Rattle.yw_judge.specs.Taken.{TakesAll}
use Rattle.yw_judge.proofs.verdict.find.Goals as goal

pub returns-clause-ok : goal.returns-clause-ok
returns-clause-ok g c = λ bytes e.
    let J = g.J.Judgement in
    let read = c.in_ok-text.ensures.ok bytes e in
    let front = c.deref.ensures.value ∙ read.0 ∙ ap (λ n. take (n + 1) bytes) c.limit.ensures.is in (
      g.met.J.Judgement.found_of_front bytes c.in_ok-finding.finding (subst (λ (t : List ℕ). J.is_found t c.in_ok-finding.finding) front c.in_ok-finding.ensures),
      subst (λ (n : ℕ). TakesAll n bytes (g.S.Source.left c.read_text.new.source)) c.limit.ensures.is read.1,
    )
