use Rattle.std.proofs.Common.{rules}
use Rattle.yw_enabled.proofs.EnterLaw.{manual_as}
use Rattle.yw_enabled.proofs.first.is_manual.Goals as goal

pub returns-then-is_atomic : goal.returns-then-is_atomic
returns-then-is_atomic c =
    manual_as c.args.net.now c.args.t c.task_at.result.now c.task_at.ensures c.args.chosen.now _ (search rules)

pub returns-else-is_atomic : goal.returns-else-is_atomic
returns-else-is_atomic c =
    manual_as c.args.net.now c.args.t c.task_at.result.now c.task_at.ensures c.args.chosen.now _ (search rules)
