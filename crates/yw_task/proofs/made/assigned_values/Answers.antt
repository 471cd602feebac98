use Rattle.std.proofs.Common.{ap, length, subst, ◌++◌, ◌∙◌, ◌≡◌, ◌≤◌}
use Rattle.std.proofs.lemmas.List.{take_all}
use Rattle.std.specs.Prelude.{fold}
use Rattle.yw_expr.specs.Rows.{put_in}
use Rattle.yw_state.specs.Passing.{set_row}
use Rattle.yw_task.proofs.MadeLaw.{kept_is, none_kept, set_row_is}
use Rattle.yw_task.proofs.made.assigned_values.Goals as goal
use Rattle.yw_task.specs.Making.{assigned, outs_from, rows_made}

pub returns-then-is_empty : goal.returns-then-is_empty
returns-then-is_empty c =
    ap (fold put_in c.args.vals.now) c.new-puts.ensures
    ∙ none_kept c.args.task.now (rows_made c.args.nodes.now) c.args.vals.now (c.is_empty.ensures.0 c.if-is_empty.true)

pub returns : goal.returns
returns c =
    let t = c.args.task.now in
    let ns = c.args.nodes.now in
    let vals = c.args.vals.now in
    let k = c.loop-one.one-index in
    let first : c.as_slice.result.now ≡ outs_from t ns 0 t.outs = c.as_slice.ensures ∙ c.in_ok-made.ensures in
    let then : c.as_slice-2.result.now ≡ vals = c.as_slice-2.ensures in
    let over : (c.as_slice.result.now ++ c.as_slice-2.result.now) ≡ set_row t (rows_made ns) vals = (λ j. first j ++ then j) ∙ set_row_is t ns vals in
    let all : length t.set ≤ k = subst (λ xs. length xs ≤ k) c.as_slice-one-items.ensures c.loop-one-test.false in
    c.loop-one.invariant ∙ ap (fold (assigned (c.as_slice.result.now ++ c.as_slice-2.result.now)) vals) (take_all _ _ all)
    ∙ ap (λ row. fold (assigned row) vals t.set) over ∙ kept_is t (rows_made ns) vals
