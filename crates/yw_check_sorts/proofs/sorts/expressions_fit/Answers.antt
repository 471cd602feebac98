use Rattle.std.proofs.Common.{◌∙◌}
use Rattle.yw_check_sorts.proofs.FittingLemmas.{no_reads, expressions_all}
use Rattle.yw_check_sorts.proofs.sorts.expressions_fit.Goals as goal

pub returns-then-not-branch : goal.returns-then-not-branch
returns-then-not-branch c =
    no_reads c.args.net.now c.args.task.now c.of-scope.result (c.of-scope.ensures ∙ c.requires.vars) c.in_ok-reads_fit.field-0 c.in_ok-reads_fit.ensures c.if-not-branch.true

pub returns : goal.returns
returns c =
    expressions_all c.args.net.now c.args.task.now c.of-scope.result (c.of-scope.ensures ∙ c.requires.vars) c.in_ok-reads_fit.field-0 c.in_ok-reads_fit.ensures c.if-not-branch.false c.in_ok-fit.fit c.in_ok-fit.ensures
