use Rattle.std.proofs.Common.{sym, ◌∙◌, ◌≡◌}
use Rattle.yw_spec.specs.declared.task.Task.{Task}
use Rattle.yw_task.proofs.EnterAsk.{of_task_at}
use Rattle.yw_task.proofs.EnterTable.{none_shown}
use Rattle.yw_task.proofs.entering.choice_fault.Goals as goal
use Rattle.yw_task.specs.Enters.{is_choice}
use Rattle.yw_tree.specs.declared.NetState.{out-NetState}

pub returns-clause-shows : goal.returns-clause-shows
returns-clause-shows c = record {
  chosen = c.is_choice-chosen.result;
  choice = of_task_at c.args.net.now c.args.t (λ (u : Task). is_choice u.join (out-NetState c.args.state.now).marks u.before c.args.taken ≡ c.is_choice-chosen.result) c.task_at.result.now c.task_at.ensures
      (sym c.is_choice-chosen.ensures);
  shown = c.ask_enter.result;
  asks = c.ask_enter.ensures.first;
  same = c.by_choice.ensures;
}

pub returns-clause-idle : goal.returns-clause-idle
returns-clause-idle c = λ none. c.ask_enter.ensures.idle (none_shown c.is_choice-chosen.result c.ask_enter.result (sym c.by_choice.ensures ∙ none))
