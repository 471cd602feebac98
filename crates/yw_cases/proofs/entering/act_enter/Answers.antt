use Rattle.std.proofs.Common.{length, subst, ◌+◌}
use Rattle.yw_cases.proofs.EnterLaw.{entered, entered_task, entry_number, entry_task, first_some, may_come, room_there, rows_there, task_grows}
use Rattle.yw_cases.proofs.TaskHere.{net_known}
use Rattle.yw_cases.proofs.entering.act_enter.Goals as goal
use Rattle.yw_standing.proofs.Trying.{fits_below}
use Rattle.yw_standing.specs.State.{state_of}
use Rattle.yw_walk.specs.Computed.{IsComputedOfEntry}

pub unreachable-requires-in_default-known_net : goal.unreachable-requires-in_default-known_net
unreachable-requires-in_default-known_net c =
    let x = entered_task c.args.standing.now c.requires.stands c.args.at.now c.args._name.now c.args._places.now c.args.first c.args.count c.requires.leads in
    net_known c.args.standing.now c.args.at.now c.args._name.now x.0 x.1 c.known_net.result c.in_default-known_net.is (c.known_net.ensures _ c.requires.stands.held)

pub come_at-requires-clause-may : goal.come_at-requires-clause-may
come_at-requires-clause-may c =
    let h = c.args.standing.now in
    let known = c.in-Some.ensures _ c.requires.stands.held in
    let takes = subst (IsComputedOfEntry (state_of h) c.args.at.now c.args._name.now c.args._places.now) c.in-Enter.is c.requires.computed in
    let task = entry_task h c.requires.stands c.args.at.now c.args._name.now c.args._places.now c.args.first c.args.count c.requires.leads c.in-Some.found known c.in-Enter.task c.in-Enter.taken c.in-Enter.rows.items takes in
    task_grows h c.requires.stands c.args.at.now c.in-Some.found known c.in-Enter.task task.0 task.1

pub come_at-requires-clause-come : goal.come_at-requires-clause-come
come_at-requires-clause-come c =
    let h = c.args.standing.now in
    let known = c.in-Some.ensures _ c.requires.stands.held in
    let takes = subst (IsComputedOfEntry (state_of h) c.args.at.now c.args._name.now c.args._places.now) c.in-Enter.is c.requires.computed in
    let number = entry_number h c.requires.stands c.args.at.now c.args._name.now c.args._places.now c.args.first c.args.count c.requires.leads c.in-Some.found known c.in-Enter.task c.in-Enter.taken c.in-Enter.rows.items takes in
    let task = entry_task h c.requires.stands c.args.at.now c.args._name.now c.args._places.now c.args.first c.args.count c.requires.leads c.in-Some.found known c.in-Enter.task c.in-Enter.taken c.in-Enter.rows.items takes in
    may_come h c.requires.stands c.args.at.now c.args._name.now c.args._places.now c.args.first c.args.count c.requires.leads c.in-Some.found known c.in-Enter.task number task.0 task.1

pub come_at-requires-clause-rows : goal.come_at-requires-clause-rows
come_at-requires-clause-rows c =
    let h = c.args.standing.now in
    let known = c.in-Some.ensures _ c.requires.stands.held in
    let takes = subst (IsComputedOfEntry (state_of h) c.args.at.now c.args._name.now c.args._places.now) c.in-Enter.is c.requires.computed in
    let number = entry_number h c.requires.stands c.args.at.now c.args._name.now c.args._places.now c.args.first c.args.count c.requires.leads c.in-Some.found known c.in-Enter.task c.in-Enter.taken c.in-Enter.rows.items takes in
    let task = entry_task h c.requires.stands c.args.at.now c.args._name.now c.args._places.now c.args.first c.args.count c.requires.leads c.in-Some.found known c.in-Enter.task c.in-Enter.taken c.in-Enter.rows.items takes in
    rows_there h c.requires.stands c.args.at.now c.args._name.now c.args._places.now c.args.first c.args.count c.requires.leads c.in-Some.found known c.in-Enter.task number task.0 task.1
    c.in-Enter.taken c.in-Enter.rows.items takes

pub come_at-requires-clause-some : goal.come_at-requires-clause-some
come_at-requires-clause-some c =
    let h = c.args.standing.now in
    let known = c.in-Some.ensures _ c.requires.stands.held in
    let takes = subst (IsComputedOfEntry (state_of h) c.args.at.now c.args._name.now c.args._places.now) c.in-Enter.is c.requires.computed in
    let number = entry_number h c.requires.stands c.args.at.now c.args._name.now c.args._places.now c.args.first c.args.count c.requires.leads c.in-Some.found known c.in-Enter.task c.in-Enter.taken c.in-Enter.rows.items takes in
    let task = entry_task h c.requires.stands c.args.at.now c.args._name.now c.args._places.now c.args.first c.args.count c.requires.leads c.in-Some.found known c.in-Enter.task c.in-Enter.taken c.in-Enter.rows.items takes in
    first_some h c.requires.stands c.args.at.now c.args._name.now c.args._places.now c.args.first c.args.count c.requires.leads c.in-Some.found known c.in-Enter.task number task.0 task.1

pub overflow_add-standing : goal.overflow_add-standing
overflow_add-standing c =
    let h = c.args.standing.now in
    let known = c.in-Some.ensures _ c.requires.stands.held in
    let takes = subst (IsComputedOfEntry (state_of h) c.args.at.now c.args._name.now c.args._places.now) c.in-Enter.is c.requires.computed in
    let number = entry_number h c.requires.stands c.args.at.now c.args._name.now c.args._places.now c.args.first c.args.count c.requires.leads c.in-Some.found known c.in-Enter.task c.in-Enter.taken c.in-Enter.rows.items takes in
    let task = entry_task h c.requires.stands c.args.at.now c.args._name.now c.args._places.now c.args.first c.args.count c.requires.leads c.in-Some.found known c.in-Enter.task c.in-Enter.taken c.in-Enter.rows.items takes in
    fits_below (c.args.first + c.args.count) (room_there h c.requires.stands c.args.at.now c.args._name.now c.args._places.now c.args.first c.args.count c.requires.leads c.in-Some.found known c.in-Enter.task number task.0 task.1)

pub returns : goal.returns
returns c =
    let h = c.args.standing.now in
    let known = c.in-Some.ensures _ c.requires.stands.held in
    let takes = subst (IsComputedOfEntry (state_of h) c.args.at.now c.args._name.now c.args._places.now) c.in-Enter.is c.requires.computed in
    let number = entry_number h c.requires.stands c.args.at.now c.args._name.now c.args._places.now c.args.first c.args.count c.requires.leads c.in-Some.found known c.in-Enter.task c.in-Enter.taken c.in-Enter.rows.items takes in
    let task = entry_task h c.requires.stands c.args.at.now c.args._name.now c.args._places.now c.args.first c.args.count c.requires.leads c.in-Some.found known c.in-Enter.task c.in-Enter.taken c.in-Enter.rows.items takes in
    entered h c.requires.stands c.args.at.now c.args._name.now c.args._places.now c.args.first c.args.count c.requires.leads c.in-Some.found known c.in-Enter.task number task.0 task.1
    c.in-Enter.taken c.in-Enter.rows.items takes c.come_at.new.forest (length c.in-Enter.rows.items) c.in_ok-come_at.ensures
