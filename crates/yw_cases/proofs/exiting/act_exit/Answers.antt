use Rattle.std.proofs.Common.{subst}
use Rattle.yw_cases.proofs.ExitLaw.{exit_task, exited, has_task, net_stands, outcome_there}
use Rattle.yw_cases.proofs.TaskHere.{net_known}
use Rattle.yw_cases.proofs.exiting.act_exit.Goals as goal
use Rattle.yw_standing.specs.State.{state_of}
use Rattle.yw_walk.specs.Computed.{IsComputedOfExit}

pub unreachable-requires-in_default-known_net : goal.unreachable-requires-in_default-known_net
unreachable-requires-in_default-known_net c =
    let x = exit_task c.args.standing.now c.requires.stands c.args.at.now c.args._name.now c.args._places.now c.requires.leads in
    net_known c.args.standing.now c.args.at.now c.args._name.now x.0 x.1 c.known_net.result c.in_default-known_net.is (c.known_net.ensures _ c.requires.stands.held)

pub exit-requires-clause-stands : goal.exit-requires-clause-stands
exit-requires-clause-stands c =
    let h = c.args.standing.now in
    let left = subst (IsComputedOfExit (state_of h) c.args.at.now c.args._name.now) c.in-Exit.is c.requires.computed in
    net_stands h c.requires.stands c.args.at.now c.args._name.now c.args._places.now c.requires.leads c.in-Some.found (c.in-Some.ensures _ c.requires.stands.held)
    c.in-Exit.task c.in-Exit.outcome left

pub exit-requires-clause-task : goal.exit-requires-clause-task
exit-requires-clause-task c =
    let h = c.args.standing.now in
    let left = subst (IsComputedOfExit (state_of h) c.args.at.now c.args._name.now) c.in-Exit.is c.requires.computed in
    has_task h c.requires.stands c.args.at.now c.args._name.now c.args._places.now c.requires.leads c.in-Some.found (c.in-Some.ensures _ c.requires.stands.held)
    c.in-Exit.task c.in-Exit.outcome left

pub exit-requires-clause-outcome : goal.exit-requires-clause-outcome
exit-requires-clause-outcome c =
    let h = c.args.standing.now in
    let left = subst (IsComputedOfExit (state_of h) c.args.at.now c.args._name.now) c.in-Exit.is c.requires.computed in
    outcome_there h c.requires.stands c.args.at.now c.args._name.now c.args._places.now c.requires.leads c.in-Some.found (c.in-Some.ensures _ c.requires.stands.held)
    c.in-Exit.task c.in-Exit.outcome left

pub returns : goal.returns
returns c =
    let h = c.args.standing.now in
    let left = subst (IsComputedOfExit (state_of h) c.args.at.now c.args._name.now) c.in-Exit.is c.requires.computed in
    exited h c.requires.stands c.args.at.now c.args._name.now c.args._places.now c.requires.leads c.in-Some.found (c.in-Some.ensures _ c.requires.stands.held)
    c.in-Exit.task c.in-Exit.outcome left c.exit.new.forest c.exit.ensures
