use Rattle.std.proofs.Common.{◌≡◌, List, ℕ, ◌∙◌, subst}
use Rattle.yw_outside.specs.Tells.{Tells}
use Rattle.yw_judge.proofs.TellLemmas.{told}
use Rattle.yw_judge.proofs.verdict.tell.Goals as goal

pub returns-clause-says : goal.returns-clause-says
returns-clause-says g c = λ tells.
    let D = g.D.Desk in
    let old = c.args.desk.now in
    let new = c.say.new.self in
    let said = c.in-Err-say.ensures in
    let line : c.as_slice.result.now ≡ g.J.Judgement.line c.args.finding.now = c.as_slice.ensures ∙ c.in-Ok.ensures in
    subst (λ (l : List ℕ). Tells D l old new) line (record {
      a = said.files_a;
      b = said.files_b;
      said = said.said tells;
      moments = told D old new (D.may_leave old) (D.may_leave new) (g.met.D.Desk.only_now old) c.as_slice.result.now said.time;
    })
