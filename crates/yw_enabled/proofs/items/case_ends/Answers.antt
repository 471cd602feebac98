use Rattle.std.proofs.Common.{rules}
use Rattle.yw_enabled.proofs.ItemSteps.{case_ends_as}
use Rattle.yw_enabled.proofs.items.case_ends.Goals as goal

pub returns-then-not-is_some-clause-ends : goal.returns-then-not-is_some-clause-ends
returns-then-not-is_some-clause-ends c = case_ends_as c.args.case.now c.args.net.now c.is_at_output.result (search rules)

pub returns-else-not-is_some-clause-ends : goal.returns-else-not-is_some-clause-ends
returns-else-not-is_some-clause-ends c = case_ends_as c.args.case.now c.args.net.now _ (search rules)
