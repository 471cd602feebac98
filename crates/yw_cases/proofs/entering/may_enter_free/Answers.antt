use Rattle.std.proofs.Common.{List, Option, ap, false, length, subst, sym, ◌∙◌, ◌≡◌}
use Rattle.std.specs.Prelude.{IfSome, ◌&&◌, ◌==◌}
use Rattle.yw_cases.proofs.EntryLaw.{enters_by, no_task, not_drawn, not_entered, not_taken}
use Rattle.yw_cases.proofs.TaskHere.{no_name_no_task, no_net_no_task, no_number_no_task}
use Rattle.yw_cases.proofs.entering.may_enter_free.Goals as goal
use Rattle.yw_cases.specs.Entering.{FindsChoice, IsChoice, candidate, stands_for}
use Rattle.yw_enabled.specs.Entered.{EntersWith}
use Rattle.yw_enabled.specs.declared.entered.Entering.{Entering}
use Rattle.yw_spec.specs.declared.spec.Place.{Place}
use Rattle.yw_standing.specs.State.{state_of}
use Rattle.yw_tree.proofs.Removed.{within}
use Rattle.yw_tree.specs.declared.NetState.{out-NetState}

pub returns-in_default : goal.returns-in_default
returns-in_default c = no_task c.args.standing.now c.requires.stands c.args.at.now c.args.name.now c.args.places.now c.args.first c.args.count (no_net_no_task (state_of c.args.standing.now) c.args.at.now c.args.name.now (c.in_default.ensures _ c.requires.stands.held))

pub returns-in_default-task_called : goal.returns-in_default-task_called
returns-in_default-task_called c =
    no_task c.args.standing.now c.requires.stands c.args.at.now c.args.name.now c.args.places.now c.args.first c.args.count
    (no_name_no_task c.args.standing.now c.args.at.now c.in-Some.here (c.in-Some.ensures _ c.requires.stands.held) c.args.name.now (sym c.in_default-task_called.ensures))

pub returns-in_default-get : goal.returns-in_default-get
returns-in_default-get c =
    no_task c.args.standing.now c.requires.stands c.args.at.now c.args.name.now c.args.places.now c.args.first c.args.count
    (no_number_no_task c.args.standing.now c.args.at.now c.in-Some.here (c.in-Some.ensures _ c.requires.stands.held) c.args.name.now c.in-Some-task_called.t (sym c.in-Some-task_called.ensures)
    (sym c.in_default-get.ensures))

pub may_be_entered-requires-clause-task : goal.may_be_entered-requires-clause-task
may_be_entered-requires-clause-task c = within c.in-Some.here.net.now.tasks c.in-Some-task_called.t c.in-Some-get.task.now (sym c.in-Some-get.ensures)

pub may_be_entered-requires-clause-few : goal.may_be_entered-requires-clause-few
may_be_entered-requires-clause-few c = let here = c.in-Some.ensures (state_of c.args.standing.now) c.requires.stands.held in here.within.few

pub may_be_entered-requires-clause-upstream : goal.may_be_entered-requires-clause-upstream
may_be_entered-requires-clause-upstream c = let here = c.in-Some.ensures (state_of c.args.standing.now) c.requires.stands.held in here.upstream

pub returns-in_default-2 : goal.returns-in_default-2
returns-in_default-2 c =
    not_entered c.args.standing.now c.requires.stands c.args.at.now c.args.name.now c.args.places.now c.args.first c.args.count c.in-Some.here (c.in-Some.ensures _ c.requires.stands.held) c.in-Some-task_called.t
    (sym c.in-Some-task_called.ensures) c.in-Some-get.task.now (sym c.in-Some-get.ensures)
    c.requires.unheld (c.in_ok-entering.ensures.none c.in_default-2.is)

pub returns-then-not-draws_items : goal.returns-then-not-draws_items
returns-then-not-draws_items c =
    let with_rows = subst (λ (o : Option Entering). IfSome o (EntersWith c.in-Some.here.net.now c.in-Some.here.state.now c.in-Some-task_called.t c.args.standing.now.next))
    c.in-Some-2.is c.in_ok-entering.ensures.some in
    not_drawn c.args.standing.now c.requires.stands c.args.at.now c.args.name.now c.args.places.now c.args.first c.args.count c.in-Some.here (c.in-Some.ensures _ c.requires.stands.held) c.in-Some-task_called.t
    (sym c.in-Some-task_called.ensures) c.in-Some-get.task.now (sym c.in-Some-get.ensures)
    c.requires.unheld
    (ap (λ k. c.args.first == c.args.standing.now.next && k == c.args.count) (sym (c.len.ensures ∙ c.in-Some-2.entering.rows.ok.0 ∙ ap length (with_rows.gives c.in-Some-get.task.now (sym c.in-Some-get.ensures)))) ∙ sym c.draws_items.ensures ∙ c.if-not-draws_items.true)

pub choice_of-requires : goal.choice_of-requires
choice_of-requires c = let here = c.in-Some.ensures (state_of c.args.standing.now) c.requires.stands.held in here.within.places

pub returns-in-Some-3 : goal.returns-in-Some-3
returns-in-Some-3 c =
    let here = c.in-Some.here in
    let with_rows = subst (λ (o : Option Entering). IfSome o (EntersWith here.net.now here.state.now c.in-Some-task_called.t c.args.standing.now.next))
    c.in-Some-2.is c.in_ok-entering.ensures.some in
    let task = c.in-Some-get.task.now in
    enters_by c.args.standing.now c.requires.stands c.args.at.now c.args.name.now c.args.places.now c.args.first c.args.count here (c.in-Some.ensures _ c.requires.stands.held) c.in-Some-task_called.t
    (sym c.in-Some-task_called.ensures) task (sym c.in-Some-get.ensures) c.requires.unheld c.in-Some-2.entering.taken with_rows.enters
    c.in-Some-2.entering.rows (with_rows.gives task (sym c.in-Some-get.ensures))
    (ap (λ k. c.args.first == c.args.standing.now.next && k == c.args.count) (sym (c.len.ensures ∙ c.in-Some-2.entering.rows.ok.0)) ∙ sym c.draws_items.ensures ∙ c.if-not-draws_items.false)
    c.in-Some-3.taken
    (subst (λ (ps : List Place). IsChoice here.net.now (out-NetState here.state.now).marks task ps c.in-Some-3.taken) c.as_slice.ensures
    (subst (FindsChoice here.net.now (out-NetState here.state.now).marks task c.as_slice.result.now) c.in-Some-3.is c.in_ok-taken.ensures))

pub returns-in-None : goal.returns-in-None
returns-in-None c =
    let here = c.in-Some.here in
    let task = c.in-Some-get.task.now in
    let marks = (out-NetState here.state.now).marks in
    not_taken c.args.standing.now c.requires.stands c.args.at.now c.args.name.now c.args.places.now c.args.first c.args.count here (c.in-Some.ensures _ c.requires.stands.held) c.in-Some-task_called.t
    (sym c.in-Some-task_called.ensures) task (sym c.in-Some-get.ensures) c.requires.unheld
    (subst (λ (ps : List Place). stands_for here.net.now marks task.before ps (candidate task.join here.net.now ps) ≡ false) c.as_slice.ensures
    (subst (FindsChoice here.net.now marks task c.as_slice.result.now) c.in-None.is c.in_ok-taken.ensures))
