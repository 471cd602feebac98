use Rattle.std.proofs.Common.{List, Option, Some, ap, arith, map, subst, suc, sym, take, ◌+◌, ◌∙◌, ◌≡◌}
use Rattle.std.specs.Prelude.{option_map}
use Rattle.yw_base.specs.Values.{value_of}
use Rattle.yw_base.specs.declared.value.Value.{Value}
use Rattle.yw_spec.specs.declared.task.Param.{Param}
use Rattle.yw_state.specs.Options.{all_of}
use Rattle.yw_task.proofs.AllOf.{all_step, all_stops, read_at}
use Rattle.yw_task.proofs.giving.given_row.Goals as goal
use Rattle.yw_task.specs.Giving.{given_value}

pub returns-in-None : goal.returns-in-None
returns-in-None c =
    let h : Param → Option Value = given_value c.args.vals.now (option_map value_of c.args.element) in
    let ps = c.as_slice-param-items.result.now in
    let k = c.loop-param.param-index in
    let p = c.param-item.result in
    sym (ap (λ (qs : List Param). all_of (map h qs)) (sym c.as_slice-param-items.ensures) ∙ all_stops h ps k p (read_at ps k p c.loop-param-test.true c.param-item.is) (sym c.in-None.ensures))

pub loop-param-preserved : goal.loop-param-preserved
loop-param-preserved c =
    let h : Param → Option Value = given_value c.args.vals.now (option_map value_of c.args.element) in
    let ps = c.as_slice-param-items.result.now in
    let k = c.loop-param.param-index in
    let p = c.param-item.result in
    let on : suc k ≡ k + 1 = omega arith in
    let row = c.loop-param.row in
    let v : Value = c.in_ok-to_value-in-Some.field-0 in
    let here : h p ≡ Some v = sym c.in-Some.ensures ∙ ap (λ (z : Value). Some z) (sym c.in_ok-to_value-in-Some.ensures) in
    subst (λ n. all_of (map h (take n ps)) ≡ Some c.push.new.self) on
    (all_step h ps k p row v (read_at ps k p c.loop-param-test.true c.param-item.is) c.loop-param.invariant here ∙ ap (λ (z : List Value). Some z) (sym c.in_ok-push-in-Some.ensures.ok))
