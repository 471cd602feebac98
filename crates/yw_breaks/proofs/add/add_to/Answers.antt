use Rattle.std.proofs.Common.{Some, ap, sym, ◌∙◌}
use Rattle.yw_breaks.proofs.Adds.{add_made, add_refused, with_element, without_element}
use Rattle.yw_breaks.proofs.add.add_to.Goals as goal
use Rattle.yw_breaks.specs.Add.{value_fault}
use Rattle.yw_state.specs.declared.rule.Refusal.{Refusal}
use Rattle.yw_task.specs.Completes.{or_else}
use Rattle.yw_tree.specs.declared.NetState.{out-NetState}

pub returns-in-Some : goal.returns-in-Some
returns-in-Some c =
    let here = c.args.here.now in
    let u = c.task_at-task.result.now in
    let fault = value_fault u (out-NetState here.state.now).vals c.args.value c.args.next in
    add_refused c.args.forest.now c.args.at c.args.roles.now here c.args.t c.args.value c.args.next c.args.name c.requires u c.task_at-task.ensures c.placeless.result
    (λ known s h. ap (λ (r : Refusal). Some r) c.placeless.ensures ∙ ap (or_else fault) (sym c.in-Some.is ∙ c.add_rule.ensures known s h))

pub returns-in_default-element_value : goal.returns-in_default-element_value
returns-in_default-element_value c =
    let here = c.args.here.now in
    let u = c.task_at-task.result.now in
    let vals = (out-NetState here.state.now).vals in
    let fault = value_fault u vals c.args.value c.args.next in
    add_refused c.args.forest.now c.args.at c.args.roles.now here c.args.t c.args.value c.args.next c.args.name c.requires u c.task_at-task.ensures c.in_ok-bad_value.field-0
    (λ known s h.
    ap (λ (r : Refusal). Some r) c.in_ok-bad_value.ensures ∙ sym (without_element u vals c.args.value c.args.next (sym c.in_default-element_value.ensures))
    ∙ ap (or_else fault) (sym c.in_default.is ∙ c.add_rule.ensures known s h))

pub returns-in-Some-2 : goal.returns-in-Some-2
returns-in-Some-2 c =
    let here = c.args.here.now in
    let u = c.task_at-task.result.now in
    let vals = (out-NetState here.state.now).vals in
    let fault = value_fault u vals c.args.value c.args.next in
    add_refused c.args.forest.now c.args.at c.args.roles.now here c.args.t c.args.value c.args.next c.args.name c.requires u c.task_at-task.ensures c.in-Some-2.refusal
    (λ known s h.
    sym c.in-Some-2.is ∙ c.in_ok-refusal.ensures
    ∙ sym (with_element u vals c.args.value c.args.next c.in-Some-element_value.element (sym c.in-Some-element_value.ensures))
    ∙ ap (or_else fault) (sym c.in_default.is ∙ c.add_rule.ensures known s h))

pub returns-in-None : goal.returns-in-None
returns-in-None c =
    let here = c.args.here.now in
    let u = c.task_at-task.result.now in
    let vals = (out-NetState here.state.now).vals in
    let element = c.in-Some-element_value.element in
    let fault = value_fault u vals c.args.value c.args.next in
    add_made c.args.forest.now c.args.at c.args.roles.now here c.args.t c.args.value c.args.next c.args.name c.requires u c.task_at-task.ensures
    (λ known s h.
    sym c.in-None.is ∙ c.in_ok-refusal.ensures ∙ sym (with_element u vals c.args.value c.args.next element (sym c.in-Some-element_value.ensures))
    ∙ ap (or_else fault) (sym c.in_default.is ∙ c.add_rule.ensures known s h))
    element (sym c.in-Some-element_value.ensures)
