use Rattle.std.proofs.Common.{inl, inr, ap, ◌∙◌, subst, sym}
use Rattle.yw_serve.specs.Judging.{status_of}
use Rattle.yw_serve.specs.Faults.{StatusFaults}
use Rattle.yw_serve.specs.declared.top.Status.{Status}
use Rattle.yw_serve.proofs.FaultLemmas.{checked_faults}
use Rattle.yw_serve.proofs.judging.serve_judging.Goals as goal

pub returns-clause-judges : goal.returns-clause-judges
returns-clause-judges g c = λ tells bytes left.
    let said = c.judge_input.ensures in
    record {
      verdict = c.judge_input.result;
      is = c.status_of.ensures;
      ends = said.ends tells bytes left;
      only = λ finding found. said.only tells bytes finding left found;
      takes = said.takes bytes left;
    }

pub returns-clause-tells : goal.returns-clause-tells
returns-clause-tells g c = λ bytes left finding found.
    let is = c.status_of.ensures in
    elim (c.judge_input.ensures.judges bytes finding left found) [
      | inl judged ↦ inl (is ∙ ap status_of judged)
      | inr other ↦ elim other [
        | inl memory ↦ inr (inl (is ∙ ap status_of memory))
        | inr failed ↦ elim failed [
          | inl read ↦ inr (inr (inl (is ∙ ap status_of read)))
          | inr write ↦ inr (inr (inr (is ∙ ap status_of write)))
        ]
      ]
    ]

pub returns-clause-faults : goal.returns-clause-faults
returns-clause-faults g c =
    let D = g.D.Desk in
    let said = c.judge_input.ensures in
    let old = c.args.desk.now in
    let new = c.judge_input.new.desk in
    let before = g.S.Source.faults c.args.source.now in
    let now = g.S.Source.faults c.judge_input.new.source in
    subst (λ (s : Status). StatusFaults D s before now old new) (sym c.status_of.ensures)
    (checked_faults D before now old new c.judge_input.result said.read_cause said.files.faults said.say_cause.say)
