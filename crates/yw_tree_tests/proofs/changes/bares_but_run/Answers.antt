use Rattle.std.proofs.Common.{◌∙◌, ap, length}
use Rattle.yw_tree_tests.proofs.Growing.{parent_not_case}
use Rattle.yw_tree_tests.proofs.changes.bares_but_run.Goals as goal

pub bare_but_run-requires-clause-at_item : goal.bare_but_run-requires-clause-at_item
bare_but_run-requires-clause-at_item c = parent_not_case c.args.id.now (λ e. c.if-numbers-eq2.false (ap length c.numbers.ensures.numbers ∙ e))
