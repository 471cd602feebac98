use Rattle.std.proofs.Common.{List, Option, Some, ap, false, subst, sym, true, ℕ, ◌∙◌, ◌≡◌}
use Rattle.std.specs.Prelude.{codes, find}
use Rattle.yw_breaks.proofs.Counts.{at_each, at_param, one_lacks}
use Rattle.yw_breaks.proofs.enter.undefined_entry.Goals as goal
use Rattle.yw_nest.proofs.Results.{if_ok}
use Rattle.yw_state.specs.Broken.{placed}
use Rattle.yw_state.specs.declared.rule.Refusal.{Refusal}
use Rattle.yw_state.specs.declared.rule.Rule.TheVariants as rules
use Rattle.yw_task.specs.Giving.{entry_fault, lacks_value}

pub returns-then-lacks_list : goal.returns-then-lacks_list
returns-then-lacks_list c =
    let task = c.args.task.now in
    let vals = c.args.vals.now in
    if_ok c.mapping.result (λ refusal. refusal ≡ placed rules.Mapping (codes "each")) (λ refusal. (next : ℕ) → Some refusal ≡ entry_fault task vals next)
    c.mapping.ensures
    (λ refusal same next. ap (λ (r : Refusal). Some r) same ∙ at_each task vals next (sym c.lacks_list.ensures ∙ c.if-lacks_list.true))

pub unreachable-requires : goal.unreachable-requires
unreachable-requires c =
    let task = c.args.task.now in
    let vals = c.args.vals.now in
    one_lacks task vals c.requires.fed c.requires.undefined (sym c.lacks_list.ensures ∙ c.if-lacks_list.false)
    (ap (find (lacks_value vals)) (sym c.as_slice.ensures) ∙ sym c.in_default.ensures)

pub returns : goal.returns
returns c =
    let task = c.args.task.now in
    let vals = c.args.vals.now in
    let param = c.in-Some.param.now in
    if_ok c.mapping-2.result (λ refusal. refusal ≡ placed rules.Mapping c.as_str.result.now) (λ refusal. (next : ℕ) → Some refusal ≡ entry_fault task vals next)
    c.mapping-2.ensures
    (λ refusal same next.
    ap (λ (r : Refusal). Some r) same
    ∙ ap (λ (at : List ℕ). Some (placed rules.Mapping at)) c.as_str.ensures.text
    ∙ at_param task vals next (sym c.lacks_list.ensures ∙ c.if-lacks_list.false) param
    (ap (find (lacks_value vals)) (sym c.as_slice.ensures) ∙ sym c.in-Some.ensures))
