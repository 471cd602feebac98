use Rattle.std.proofs.Common.{false, refl, sym, true, ◌∙◌}
use Rattle.yw_cases.proofs.AddLaw.{held_back, no_task, not_next, tells_growth}
use Rattle.yw_cases.proofs.TaskHere.{its, named, no_name_no_task, no_net_no_task, no_number_no_task}
use Rattle.yw_cases.proofs.adding.may_add.Goals as goal
use Rattle.yw_standing.specs.State.{state_of}

pub returns-then-not-draws : goal.returns-then-not-draws
returns-then-not-draws c = not_next c.args.standing.now c.requires c.args.at.now c.args.name.now c.args.value.now c.args.n (sym c.draws.ensures ∙ c.if-not-draws.true)

pub returns-then-is_held : goal.returns-then-is_held
returns-then-is_held c = held_back c.args.standing.now c.requires c.args.at.now c.args.name.now c.args.value.now c.args.n (sym c.is_held.ensures ∙ c.if-is_held.true)

pub returns-in_default : goal.returns-in_default
returns-in_default c = no_task c.args.standing.now c.requires c.args.at.now c.args.name.now c.args.value.now c.args.n (no_net_no_task (state_of c.args.standing.now) c.args.at.now c.args.name.now (c.in_default.ensures _ c.requires.held))

pub returns-in_default-task_called : goal.returns-in_default-task_called
returns-in_default-task_called c =
    no_task c.args.standing.now c.requires c.args.at.now c.args.name.now c.args.value.now c.args.n
    (no_name_no_task c.args.standing.now c.args.at.now c.in-Some.here (c.in-Some.ensures _ c.requires.held) c.args.name.now (sym c.in_default-task_called.ensures))

pub returns-in_default-get : goal.returns-in_default-get
returns-in_default-get c =
    no_task c.args.standing.now c.requires c.args.at.now c.args.name.now c.args.value.now c.args.n
    (no_number_no_task c.args.standing.now c.args.at.now c.in-Some.here (c.in-Some.ensures _ c.requires.held) c.args.name.now c.in-Some-task_called.t (sym c.in-Some-task_called.ensures)
    (sym c.in_default-get.ensures))

pub returns-then-not-may_grow : goal.returns-then-not-may_grow
returns-then-not-may_grow c =
    tells_growth c.args.standing.now c.requires c.args.at.now c.args.name.now c.args.value.now c.args.n c.in-Some.here (c.in-Some.ensures _ c.requires.held) c.in-Some-task_called.t
    (sym c.in-Some-task_called.ensures) c.in-Some-get.task.now (sym c.in-Some-get.ensures) (sym c.is_held.ensures ∙ c.if-is_held.false)
    (sym c.draws.ensures ∙ c.if-not-draws.false)
    false (sym c.if-not-may_grow.true ∙ c.may_grow.ensures)

pub returns : goal.returns
returns c =
    let h = c.args.standing.now in
    let i = c.args.at.now in
    let name = c.args.name.now in
    let w = c.in-Some.here in
    let here = c.in-Some.ensures _ c.requires.held in
    let t = c.in-Some-task_called.t in
    let number = sym c.in-Some-task_called.ensures in
    let task = c.in-Some-get.task.now in
    let at = sym c.in-Some-get.ensures in
    record {
      leads = tells_growth h c.requires i name c.args.value.now c.args.n w here t number task at (sym c.is_held.ensures ∙ c.if-is_held.false)
          (sym c.draws.ensures ∙ c.if-not-draws.false)
          true (sym c.if-not-may_grow.false ∙ c.may_grow.ensures);
      numbered = record { of_task = its h i w here name t number task at; named = named h i w here name t number task at; number = refl };
    }
