use Rattle.std.proofs.Common.{ap, sym, ◌∙◌}
use Rattle.std.specs.Prelude.{option_and_then}
use Rattle.yw_standing.proofs.HereLaw.{no_item}
use Rattle.yw_deeds.proofs.judging.judge_item.Goals as goal
use Rattle.yw_deeds.specs.Judging.{over_item}
use Rattle.yw_standing.specs.State.{state_of}
use Rattle.yw_known.specs.Here.{as_item_at}
use Rattle.yw_rdr.proofs.ItemValues.{same_values}
use Rattle.yw_rdr.specs.Rules.{rules_of}
use Rattle.yw_state.specs.RuleTree.{concluded}

pub returns-in_err-here : goal.returns-in_err-here
returns-in_err-here c =
    rw c.from_residual.ensures
    (sym (ap (option_and_then (over_item c.args.tree.now)) (no_item (state_of c.args.standing.now) c.args.j.now (c.in_err-here.ensures _ c.requires))))

pub returns : goal.returns
returns c =
    let h = c.args.standing.now in
    let ks = c.args.tree.now in
    c.conclude.ensures ∙ ap (concluded (rules_of ks)) (same_values (as_item_at h.known c.in_ok-here.here))
    ∙ sym (ap (option_and_then (over_item ks)) (c.in_ok-here.ensures _ c.requires).at)
