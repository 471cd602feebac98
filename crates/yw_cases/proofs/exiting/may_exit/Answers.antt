use Rattle.std.proofs.Common.{subst, sym, ◌∙◌}
use Rattle.std.specs.Cmp.Lexicographic.{pointwise}
use Rattle.std.specs.Prelude.{nat_eq}
use Rattle.yw_cases.proofs.ExitLaw.{exits_by, held_back, no_task, not_leaving, not_split}
use Rattle.yw_cases.proofs.TaskHere.{no_name_no_task, no_net_no_task, no_number_no_task}
use Rattle.yw_cases.proofs.exiting.may_exit.Goals as goal
use Rattle.yw_enabled.specs.Left.{LeavesAs}
use Rattle.yw_standing.specs.State.{state_of}
use Rattle.yw_state.specs.Allowed.{place_numbers}
use Rattle.yw_state.specs.Options.{is_some_and}
use Rattle.yw_tree.proofs.Removed.{within}

pub returns-then-is_held : goal.returns-then-is_held
returns-then-is_held c = held_back c.args.standing.now c.requires c.args.at.now c.args.name.now c.args.places.now (sym c.is_held.ensures ∙ c.if-is_held.true)

pub returns-in_default : goal.returns-in_default
returns-in_default c = no_task c.args.standing.now c.requires c.args.at.now c.args.name.now c.args.places.now (no_net_no_task (state_of c.args.standing.now) c.args.at.now c.args.name.now (c.in_default.ensures _ c.requires.held))

pub returns-in_default-task_called : goal.returns-in_default-task_called
returns-in_default-task_called c =
    no_task c.args.standing.now c.requires c.args.at.now c.args.name.now c.args.places.now
    (no_name_no_task c.args.standing.now c.args.at.now c.in-Some.here (c.in-Some.ensures _ c.requires.held) c.args.name.now (sym c.in_default-task_called.ensures))

pub returns-in_default-get : goal.returns-in_default-get
returns-in_default-get c =
    no_task c.args.standing.now c.requires c.args.at.now c.args.name.now c.args.places.now
    (no_number_no_task c.args.standing.now c.args.at.now c.in-Some.here (c.in-Some.ensures _ c.requires.held) c.args.name.now c.in-Some-task_called.t (sym c.in-Some-task_called.ensures)
    (sym c.in_default-get.ensures))

pub may_be_left-requires : goal.may_be_left-requires
may_be_left-requires c = within c.in-Some.here.net.now.tasks c.in-Some-task_called.t c.in-Some-get.field-0.now (sym c.in-Some-get.ensures)

pub are_numbered-requires : goal.are_numbered-requires
are_numbered-requires c = let here = c.in-Some.ensures (state_of c.args.standing.now) c.requires.held in here.within.places

pub returns-in_default-2 : goal.returns-in_default-2
returns-in_default-2 c =
    not_leaving c.args.standing.now c.requires c.args.at.now c.args.name.now c.args.places.now c.in-Some.here (c.in-Some.ensures _ c.requires.held) c.in-Some-task_called.t
    (sym c.in-Some-task_called.ensures) c.in-Some-get.field-0.now (sym c.in-Some-get.ensures) (sym c.is_held.ensures ∙ c.if-is_held.false)
    (subst (LeavesAs c.in-Some.here.net.now c.in-Some.here.state.now c.in-Some-task_called.t) c.in_default-2.is (c.in_ok-outcome.ensures tt))

pub returns-then-not-are_numbered : goal.returns-then-not-are_numbered
returns-then-not-are_numbered c =
    let net = c.in-Some.here.net.now in
    not_split c.args.standing.now c.requires c.args.at.now c.args.name.now c.args.places.now c.in-Some.here (c.in-Some.ensures _ c.requires.held) c.in-Some-task_called.t
    (sym c.in-Some-task_called.ensures) c.in-Some-get.field-0.now (sym c.in-Some-get.ensures) (sym c.is_held.ensures ∙ c.if-is_held.false) c.in-Some-2.outcome
    (subst (LeavesAs net c.in-Some.here.state.now c.in-Some-task_called.t) c.in-Some-2.is (c.in_ok-outcome.ensures tt))
    ((λ k. is_some_and (place_numbers net (sym c.as_slice.ensures k)) (λ cs. pointwise nat_eq cs (sym c.as_slice-2.ensures k))) ∙ sym c.are_numbered.ensures ∙ c.if-not-are_numbered.true)

pub returns : goal.returns
returns c =
    let net = c.in-Some.here.net.now in
    exits_by c.args.standing.now c.requires c.args.at.now c.args.name.now c.args.places.now c.in-Some.here (c.in-Some.ensures _ c.requires.held) c.in-Some-task_called.t
    (sym c.in-Some-task_called.ensures) c.in-Some-get.field-0.now (sym c.in-Some-get.ensures) (sym c.is_held.ensures ∙ c.if-is_held.false) c.in-Some-2.outcome
    (subst (LeavesAs net c.in-Some.here.state.now c.in-Some-task_called.t) c.in-Some-2.is (c.in_ok-outcome.ensures tt))
    ((λ k. is_some_and (place_numbers net (sym c.as_slice.ensures k)) (λ cs. pointwise nat_eq cs (sym c.as_slice-2.ensures k))) ∙ sym c.are_numbered.ensures ∙ c.if-not-are_numbered.false)
