use Rattle.std.proofs.Common.{sym, subst, ◌∙◌}
use Rattle.yw_task.proofs.CompleteLaw.{completes, completes_first}
use Rattle.yw_task.proofs.done.complete.Goals as goal
use Rattle.yw_task.specs.Completes.{CompleteBreaks}

pub returns-in-Some-clause-first : goal.returns-in-Some-clause-first
returns-in-Some-clause-first c =
    subst (CompleteBreaks c.args.net.now c.args.vals.now c.args.so_far.now c.args.node.now c.args.who.now c.args.out) (sym c.in_ok-refusal.ensures ∙ c.in-Some.is)
    (completes_first c.args.net.now c.task_at-task.result.now c.args.vals.now c.args.so_far.now c.args.node.now c.args.who.now c.args.out c.task_at-task.ensures)

pub returns-clause-first : goal.returns-clause-first
returns-clause-first c =
    subst (CompleteBreaks c.args.net.now c.args.vals.now c.args.so_far.now c.args.node.now c.args.who.now c.args.out) (sym c.in_ok-refusal.ensures ∙ c.in_default.is)
    (completes_first c.args.net.now c.task_at-task.result.now c.args.vals.now c.args.so_far.now c.args.node.now c.args.who.now c.args.out c.task_at-task.ensures)

pub returns-clause-ok : goal.returns-clause-ok
returns-clause-ok c = completes c.args.node.now c.finish.new.node c.args.out c.args.due c.finish.ensures
