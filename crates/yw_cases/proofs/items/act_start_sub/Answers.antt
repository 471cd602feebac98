use Rattle.yw_cases.proofs.ItemsGo.{begins_so, begun, outer_found, outer_none, sub_may_start}
use Rattle.yw_cases.proofs.items.act_start_sub.Goals as goal
use Rattle.yw_cases.specs.declared.items.ItemEvent.TheVariants.{StartSub}
use Rattle.yw_nest.proofs.Results.{if_ok}
use Rattle.yw_nest.specs.Items.{StartsSub}
use Rattle.yw_standing.specs.Here.{with_state}
use Rattle.yw_standing.specs.Tried.{IsDone}
use Rattle.yw_state.specs.declared.event.Event.TheVariants as events

pub start_sub-requires-clause-may : goal.start_sub-requires-clause-may
start_sub-requires-clause-may c =
    let is = outer_found c.args.standing.now c.args.j.now c.outer_net.result c.in-Some.outer c.in-Some.is (c.outer_net.ensures _ c.requires.stands.held) in
    sub_may_start c.args.standing.now c.requires.stands c.args.j.now (begins_so c.args.standing.now c.requires.stands c.args.j.now c.requires.leads) (with_state c.in-Some.outer is.state) is.here

pub returns : goal.returns
returns c =
    let old = c.args.standing.now in
    let j = c.args.j.now in
    let is = outer_found old j c.outer_net.result c.in-Some.outer c.in-Some.is (c.outer_net.ensures _ c.requires.stands.held) in
    let new = c.start_sub.new.forest in
    if_ok c.start_sub.result (λ _. StartsSub c.in-Some.outer.spec.now j old.forest new) (λ _. IsDone old (events.StartSub j) (record old { forest = new }))
    c.start_sub.ensures.ok
    (λ _ does. begun old c.requires.stands j (begins_so old c.requires.stands j c.requires.leads) (with_state c.in-Some.outer is.state) is.here new does)

pub unreachable-requires : goal.unreachable-requires
unreachable-requires c =
    outer_none c.args.standing.now c.args.j.now c.outer_net.result c.in_default.is (c.outer_net.ensures _ c.requires.stands.held) StartSub
    (begins_so c.args.standing.now c.requires.stands c.args.j.now c.requires.leads)
