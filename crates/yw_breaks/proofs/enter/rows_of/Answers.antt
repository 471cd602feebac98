use Rattle.std.proofs.Common.{List, Option, Some, ap, subst, sym, ℕ, ◌∙◌, ◌≡◌}
use Rattle.std.specs.Prelude.{option_map}
use Rattle.yw_breaks.proofs.Counts.{are_given, at_param, by_count, listed}
use Rattle.yw_breaks.proofs.enter.rows_of.Goals as goal
use Rattle.yw_state.specs.Broken.{placed, placeless}
use Rattle.yw_state.specs.Passing.{entry_values}
use Rattle.yw_state.specs.declared.rule.Refusal.{Refusal}
use Rattle.yw_state.specs.declared.rule.Rule.{Rule}
use Rattle.yw_state.specs.declared.rule.Rule.TheVariants as rules
use Rattle.yw_task.specs.Giving.{AreRows, count_rule}

pub undefined_entry-requires-clause-undefined : goal.undefined_entry-requires-clause-undefined
undefined_entry-requires-clause-undefined c = subst (AreRows (entry_values c.args.task.now c.args.vals.now)) c.in_default.is c.in_ok-rows.ensures

pub returns-in_default : goal.returns-in_default
returns-in_default c = c.in_ok-undefined_entry.ensures c.args.next

pub lacking-requires : goal.lacking-requires
lacking-requires c =
    subst (AreRows (entry_values c.args.task.now c.args.vals.now)) c.in-Some.is c.in_ok-rows.ensures ∙ ap (λ rows. Some rows) (sym c.as_slice.ensures.value)

pub returns-in-Some-lacking : goal.returns-in-Some-lacking
returns-in-Some-lacking c =
    let task = c.args.task.now in
    let vals = c.args.vals.now in
    let given = subst (AreRows (entry_values task vals)) c.in-Some.is c.in_ok-rows.ensures in
    ap (λ (r : Refusal). Some r) c.in_ok-mapping.ensures
    ∙ ap (λ (at : List ℕ). Some (placed rules.Mapping at)) c.as_str.ensures.text
    ∙ at_param task vals c.args.next (listed task vals c.args.next c.in-Some.rows.items given) c.in-Some-lacking.param.now (sym c.in-Some-lacking.ensures)

pub returns-in-Some-count_rule : goal.returns-in-Some-count_rule
returns-in-Some-count_rule c =
    let task = c.args.task.now in
    let vals = c.args.vals.now in
    let next = c.args.next in
    let given = subst (AreRows (entry_values task vals)) c.in-Some.is c.in_ok-rows.ensures in
    let long = c.len.ensures ∙ c.in-Some.rows.ok.0 in
    ap (λ (r : Refusal). Some r) c.placeless.ensures
    ∙ ap (λ (o : Option Rule). option_map placeless o) (sym c.in-Some-count_rule.is ∙ c.count_rule.ensures.value ∙ ap (count_rule task next) long)
    ∙ by_count task vals next c.in-Some.rows.items given (sym c.in_default-lacking.ensures)

pub returns-in-None : goal.returns-in-None
returns-in-None c =
    let task = c.args.task.now in
    let vals = c.args.vals.now in
    let next = c.args.next in
    let given = subst (AreRows (entry_values task vals)) c.in-Some.is c.in_ok-rows.ensures in
    let long = c.len.ensures ∙ c.in-Some.rows.ok.0 in
    are_given task vals next c.in-Some.rows.items given (sym c.in_default-lacking.ensures)
    (ap (count_rule task next) (sym long) ∙ sym c.count_rule.ensures.value ∙ c.in-None.is)
