use Rattle.std.proofs.Common.{Some, ap, sym, ◌∙◌}
use Rattle.std.proofs.lemmas.Result.{IfOk-weaker}
use Rattle.std.specs.Prelude.{is_some}
use Rattle.yw_spec.specs.declared.task.Task.{Task}
use Rattle.yw_state.proofs.Tests.{some_same}
use Rattle.yw_state.specs.Passing.{given_values}
use Rattle.yw_task.proofs.AddLaw.{adds_element}
use Rattle.yw_task.proofs.adding.come_more.Goals as goal
use Rattle.yw_tree.proofs.Removed.{within}
use Rattle.yw_tree.specs.declared.NetState.{out-NetState}

pub task_at-requires : goal.task_at-requires
task_at-requires c = let m = c.requires.may in within c.args.net.now.tasks c.args.t m.task m.of_net

pub element_row-requires : goal.element_row-requires
element_row-requires c =
    let m = c.requires.may in
    let same = some_same m.task c.task_at.result.now (sym m.of_net ∙ c.task_at.ensures) in
    ap (λ (u : Task). is_some (given_values u (out-NetState c.args.state.now).vals (Some c.args.element.now))) (sym same) ∙ m.given

pub come_row-requires-clause-number : goal.come_row-requires-clause-number
come_row-requires-clause-number c = let m = c.requires.may in m.number

pub returns : goal.returns
returns c =
    IfOk-weaker c.come_row.result _ _
    (λ _ gets. adds_element c.args.net.now c.args.state.now c.come_row.new.state c.args.at.now c.args.t c.task_at.result.now c.task_at.ensures c.args.element.now c.args.n c.args.due c.in_ok-given.given
    c.requires.boxed c.in_ok-given.ensures gets) c.come_row.ensures
