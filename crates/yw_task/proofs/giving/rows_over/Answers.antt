use Rattle.std.proofs.Common.{List, Option, Some, ap, arith, length, map, subst, suc, sym, take, ◌+◌, ◌<◌, ◌∙◌, ◌≡◌}
use Rattle.std.specs.Prelude.{slice_get}
use Rattle.yw_base.specs.Values.{value_of}
use Rattle.yw_base.specs.declared.value.Value.{Value}
use Rattle.yw_state.specs.Options.{all_of}
use Rattle.yw_state.specs.Passing.{given_values}
use Rattle.yw_state.specs.Values.{Row}
use Rattle.yw_task.proofs.AllOf.{all_step, all_stops, read_some}
use Rattle.yw_task.proofs.giving.rows_over.Goals as goal
use Rattle.yw_task.specs.Giving.{elements}

pub returns-in-None : goal.returns-in-None
returns-in-None c =
    let h : Option Value → Option Row = given_values c.args.task.now c.args.vals.now in
    let es = elements (value_of c.args.list) in
    let k = c.loop-k.k in
    let below : k < length es = subst (λ n. k < n) c.element_count-k-end.ensures c.loop-k-test.true in
    let none = ap h (sym c.element_at.ensures) ∙ sym c.in_ok-row.ensures ∙ c.in-None.is in
    all_stops h (map (λ (x : Value). Some x) es) k (slice_get es k) (read_some es k below) none

pub loop-k-preserved : goal.loop-k-preserved
loop-k-preserved c =
    let h : Option Value → Option Row = given_values c.args.task.now c.args.vals.now in
    let es = elements (value_of c.args.list) in
    let k = c.loop-k.k in
    let below : k < length es = subst (λ n. k < n) c.element_count-k-end.ensures c.loop-k-test.true in
    let here = ap h (sym c.element_at.ensures) ∙ sym c.in_ok-row.ensures ∙ c.in-Some.is in
    let on : suc k ≡ k + 1 = omega arith in
    subst (λ n. all_of (map h (take n (map (λ (x : Value). Some x) es))) ≡ Some c.push.new.self.items) on
    (all_step h (map (λ (x : Value). Some x) es) k (slice_get es k) c.loop-k.rows.items c.in-Some.row (read_some es k below) c.loop-k.invariant here
    ∙ ap (λ (z : List Row). Some z) (sym c.in_ok-push-in-Some.ensures.items))
