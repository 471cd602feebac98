use Rattle.std.proofs.Common.{◌∙◌, [], sym}
use Rattle.std.proofs.lemmas.Bool.{and_from}
use Rattle.std.proofs.lemmas.List.Folds.{list_all_at, list_all_more}
use Rattle.yw_check_tasks.specs.Outputs.{is_counted_once}
use Rattle.yw_check_tasks.proofs.NameLemmas.{is_one, not_one}
use Rattle.yw_check_tasks.proofs.splits.are_counted_once.Goals as goal

pub returns-then-count_at-ne1 : goal.returns-then-count_at-ne1
returns-then-count_at-ne1 c =
    sym (list_all_at (is_counted_once c.args.branches.now) c.args.outputs.now c.loop-output.output-index (record { ref_ptr = (0, 0); now = [] }) c.loop-output-test.true (not_one _ _ c.count_at.ensures c.if-count_at-ne1.true))

pub loop-output-preserved : goal.loop-output-preserved
loop-output-preserved c =
    list_all_more (is_counted_once c.args.branches.now) c.args.outputs.now c.loop-output.output-index (record { ref_ptr = (0, 0); now = [] }) c.loop-output-test.true
    ∙ and_from _ _ c.loop-output.invariant (is_one _ _ c.count_at.ensures c.if-count_at-ne1.false)
