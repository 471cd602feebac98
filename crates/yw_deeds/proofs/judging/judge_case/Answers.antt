use Rattle.std.proofs.Common.{ap, sym, ◌∙◌}
use Rattle.std.specs.Prelude.{option_and_then}
use Rattle.yw_deeds.proofs.KnownGo.{case_gone, case_part}
use Rattle.yw_deeds.proofs.judging.judge_case.Goals as goal
use Rattle.yw_deeds.specs.Judging.{over_case}
use Rattle.yw_standing.specs.State.{state_of}

pub returns-in_err-case : goal.returns-in_err-case
returns-in_err-case c =
    let h = c.args.standing.now in
    rw c.from_residual.ensures
    (sym (ap (option_and_then (over_case c.args.tree.now)) (case_gone h.known h.forest (state_of h) c.requires c.args.n c.in_err-case.ensures)))

pub returns : goal.returns
returns c =
    let h = c.args.standing.now in
    c.conclude.ensures
    ∙ sym (ap (option_and_then (over_case c.args.tree.now)) (case_part h.known h.forest (state_of h) c.requires c.args.n c.in_ok-case.case.now (sym c.in_ok-case.ensures)))
