use Rattle.std.proofs.Common.{List, Option, Some, ap, arith, map, subst, suc, sym, take, ◌+◌, ◌∙◌, ◌≡◌}
use Rattle.yw_base.specs.declared.value.Value.{Value}
use Rattle.yw_given.proofs.Finding.{read_at}
use Rattle.yw_given.proofs.Making.{all_step, all_stops}
use Rattle.yw_given.proofs.complete.row_of.Goals as goal
use Rattle.yw_spec.specs.declared.task.Param.{Param}
use Rattle.yw_state.specs.Given.{made_value}
use Rattle.yw_state.specs.Options.{all_of}

pub returns-in-None : goal.returns-in-None
returns-in-None c =
    let h : Param → Option Value = made_value c.args.given.now in
    let ps = c.args.params.now in
    let k = c.loop-param.param-index in
    let p = c.param-item.result in
    sym (all_stops h ps k p (read_at ps k p c.loop-param-test.true c.param-item.is) (sym c.in_ok-value.ensures ∙ c.in-None.is))

pub loop-param-preserved : goal.loop-param-preserved
loop-param-preserved c =
    let h : Param → Option Value = made_value c.args.given.now in
    let ps = c.args.params.now in
    let k = c.loop-param.param-index in
    let p = c.param-item.result in
    let v = c.in-Some.value in
    let on : suc k ≡ k + 1 = omega arith in
    let here : h p ≡ Some v = sym c.in_ok-value.ensures ∙ c.in-Some.is in
    subst (λ n. all_of (map h (take n ps)) ≡ Some c.push.new.self) on
    (all_step h ps k p c.loop-param.row v (read_at ps k p c.loop-param-test.true c.param-item.is) c.loop-param.invariant here
    ∙ ap (λ (z : List Value). Some z) (sym c.in_ok-push-in-Some.ensures.ok))
