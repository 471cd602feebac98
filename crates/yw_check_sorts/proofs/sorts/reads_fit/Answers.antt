use Rattle.yw_check_sorts.proofs.FittingLemmas.{no_values, reads_all}
use Rattle.yw_check_sorts.proofs.sorts.reads_fit.Goals as goal

pub returns-then-not-branch-2 : goal.returns-then-not-branch-2
returns-then-not-branch-2 c =
    no_values c.args.scope.now c.args.task.now c.as_slice.result.now c.as_slice.ensures c.in_ok-values_fit.field-0 c.in_ok-values_fit.ensures c.if-not-branch-2.true

pub returns : goal.returns
returns c =
    reads_all c.args.scope.now c.args.task.now c.in_ok-spells_if_any.field-0 c.in_ok-values_fit.field-0 c.in_ok-spells_if_any.ensures c.if-not-branch.false
    c.as_slice.result.now c.as_slice.ensures c.in_ok-values_fit.ensures c.if-not-branch-2.false
    c.as_slice-2.result.now c.as_slice-2.ensures c.in_ok-fit.fit c.in_ok-fit.ensures
