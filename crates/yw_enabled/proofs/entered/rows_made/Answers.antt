use Rattle.std.proofs.Common.{ap, subst, sym, ◌∙◌}
use Rattle.yw_enabled.proofs.MadeCount.{are_made, none_fits, none_given}
use Rattle.yw_enabled.proofs.entered.rows_made.Goals as goal
use Rattle.yw_state.specs.Passing.{entry_values}
use Rattle.yw_task.specs.Giving.{AreRows, count_rule}

pub returns-in_default : goal.returns-in_default
returns-in_default c =
    let task = c.args.task.now in
    let vals = c.args.vals.now in
    none_given task vals c.args.first (subst (AreRows (entry_values task vals)) c.in_default.is c.in_ok-rows.ensures)

pub returns-in-None : goal.returns-in-None
returns-in-None c =
    let task = c.args.task.now in
    let vals = c.args.vals.now in
    let given = subst (AreRows (entry_values task vals)) c.in-Some.is c.in_ok-rows.ensures in
    let long = c.len.ensures ∙ c.in-Some.rows.ok.0 in
    are_made task vals c.args.first c.in-Some.rows.items given
    (ap (count_rule task c.args.first) (sym long) ∙ sym c.count_rule.ensures.value ∙ c.in-None.is)

pub returns-in-Some-count_rule : goal.returns-in-Some-count_rule
returns-in-Some-count_rule c =
    let task = c.args.task.now in
    let vals = c.args.vals.now in
    let given = subst (AreRows (entry_values task vals)) c.in-Some.is c.in_ok-rows.ensures in
    let long = c.len.ensures ∙ c.in-Some.rows.ok.0 in
    none_fits task vals c.args.first c.in-Some.rows.items given c.in-Some-count_rule._rule
    (ap (count_rule task c.args.first) (sym long) ∙ sym c.count_rule.ensures.value ∙ c.in-Some-count_rule.is)
