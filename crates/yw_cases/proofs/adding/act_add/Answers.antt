use Rattle.std.proofs.Common.{◌+◌}
use Rattle.yw_cases.proofs.AddLaw.{added, come_below, may_come_more, number_some, room_there}
use Rattle.yw_cases.proofs.EnterLaw.{task_grows}
use Rattle.yw_cases.proofs.TaskHere.{net_known, number_known, task_known}
use Rattle.yw_cases.proofs.adding.act_add.Goals as goal
use Rattle.yw_standing.proofs.Trying.{fits_below}

pub unreachable-requires : goal.unreachable-requires
unreachable-requires c =
    let h = c.args.standing.now in
    let may = c.requires.stands in
    let i = c.args.at.now in
    let name = c.args._name.now in
    let x = c.requires.number in
    net_known h i name x.of_task x.named c.known_net.result c.in_default.is (c.known_net.ensures _ may.held)

pub come_more_at-requires-clause-may : goal.come_more_at-requires-clause-may
come_more_at-requires-clause-may c =
    let h = c.args.standing.now in
    let may = c.requires.stands in
    let i = c.args.at.now in
    let name = c.args._name.now in
    let x = c.requires.number in
    let w = c.in-Some.found in
    let known = c.in-Some.ensures _ may.held in
    let t = c.args.t in
    let number = number_known h i name x.of_task x.named w known t x.number in
    let task = task_known h i name x.of_task x.named w known t number in
    task_grows h may i w known t task.0 task.1

pub come_more_at-requires-clause-come : goal.come_more_at-requires-clause-come
come_more_at-requires-clause-come c =
    let h = c.args.standing.now in
    let may = c.requires.stands in
    let i = c.args.at.now in
    let name = c.args._name.now in
    let value = c.args.value.now in
    let n = c.args.n in
    let x = c.requires.number in
    let w = c.in-Some.found in
    let known = c.in-Some.ensures _ may.held in
    let t = c.args.t in
    let number = number_known h i name x.of_task x.named w known t x.number in
    let task = task_known h i name x.of_task x.named w known t number in
    may_come_more h may i name value n c.requires.leads w known t number task.0 task.1

pub come_more_at-requires-clause-before : goal.come_more_at-requires-clause-before
come_more_at-requires-clause-before c =
    let h = c.args.standing.now in
    let may = c.requires.stands in
    let i = c.args.at.now in
    let name = c.args._name.now in
    let value = c.args.value.now in
    let n = c.args.n in
    let x = c.requires.number in
    let w = c.in-Some.found in
    let known = c.in-Some.ensures _ may.held in
    let t = c.args.t in
    let number = number_known h i name x.of_task x.named w known t x.number in
    come_below h may i name value n c.requires.leads w known t number

pub come_more_at-requires-clause-some : goal.come_more_at-requires-clause-some
come_more_at-requires-clause-some c =
    let h = c.args.standing.now in
    let may = c.requires.stands in
    let i = c.args.at.now in
    let name = c.args._name.now in
    let value = c.args.value.now in
    let n = c.args.n in
    number_some h may i name value n c.requires.leads

pub overflow_add-standing : goal.overflow_add-standing
overflow_add-standing c =
    let h = c.args.standing.now in
    let may = c.requires.stands in
    let i = c.args.at.now in
    let name = c.args._name.now in
    let value = c.args.value.now in
    let n = c.args.n in
    fits_below (n + 1) (room_there h may i name value n c.requires.leads)

pub returns : goal.returns
returns c =
    let h = c.args.standing.now in
    let may = c.requires.stands in
    let i = c.args.at.now in
    let name = c.args._name.now in
    let value = c.args.value.now in
    let n = c.args.n in
    let x = c.requires.number in
    let w = c.in-Some.found in
    let known = c.in-Some.ensures _ may.held in
    let t = c.args.t in
    let number = number_known h i name x.of_task x.named w known t x.number in
    let task = task_known h i name x.of_task x.named w known t number in
    added h may i name value n c.requires.leads w known t number task.0 task.1 c.come_more_at.new.forest c.in_ok-come_more_at.ensures
