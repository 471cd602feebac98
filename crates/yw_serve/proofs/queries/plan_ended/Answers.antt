use Rattle.std.proofs.Common.{ℕ, List, ◌∙◌, sym, ap}
use Rattle.std.proofs.lemmas.Result.{IfOk-weaker}
use Rattle.serde_json.specs.Data.{string}
use Rattle.yw_engine.specs.Held as engine
use Rattle.yw_lines.specs.Answers.{answer_line}
use Rattle.yw_serve.proofs.ToldLemmas.{ended_refused, ended_told}
use Rattle.yw_serve.proofs.queries.plan_ended.Goals as goal

pub returns-in_ok-reply_text-in-Some : goal.returns-in_ok-reply_text-in-Some
returns-in_ok-reply_text-in-Some c =
    let s = engine.state_of c.args.engine.now in
    let worded = c.in_ok-text-in-Some.ensures ∙ c.way_text.ensures in
    ended_told s c.args.n _ c.args.case.now c.in-Some.way (sym c.in-Some.ensures)
    (c.in_ok-reply_text-in-Some.ensures ∙ ap (λ (text : List ℕ). answer_line c.args.n (string text)) worded)

pub returns-in-None : goal.returns-in-None
returns-in-None c =
    let s = engine.state_of c.args.engine.now in
    IfOk-weaker c.refuse_by.result _ _ (λ plan plans. ended_refused s c.args.n plan c.args.case.now (sym c.in-None.ensures) plans) c.refuse_by.ensures
