use Rattle.std.proofs.Common.{sym, ◌∙◌}
use Rattle.yw_deeds.proofs.JudgedSo.{case_judged, item_judged}
use Rattle.yw_deeds.proofs.judging.judge_by.Goals as goal
use Rattle.yw_standing.specs.State.{state_of}

pub returns-then-is_top : goal.returns-then-is_top
returns-then-is_top c =
    c.judge_case.ensures
    ∙ case_judged (state_of c.args.standing.now) c.args.at.now c.args.tree.now (sym c.is_top.ensures ∙ c.if-is_top.true) c.case_number.result c.case_number.ensures

pub returns : goal.returns
returns c = c.judge_item.ensures ∙ item_judged (state_of c.args.standing.now) c.args.at.now c.args.tree.now (sym c.is_top.ensures ∙ c.if-is_top.false)
