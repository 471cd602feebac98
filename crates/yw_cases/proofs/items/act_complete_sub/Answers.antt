use Rattle.yw_cases.proofs.ItemsGo.{ended, ends_so, outer_found, outer_none, sub_may_end}
use Rattle.yw_cases.proofs.items.act_complete_sub.Goals as goal
use Rattle.yw_cases.specs.declared.items.ItemEvent.TheVariants.{CompleteSub}
use Rattle.yw_nest.proofs.Results.{if_ok}
use Rattle.yw_nest.specs.Items.{CompletesSub}
use Rattle.yw_standing.specs.Here.{with_state}
use Rattle.yw_standing.specs.Tried.{IsDone}
use Rattle.yw_state.proofs.Tests.{and_left}
use Rattle.yw_state.specs.State.{no_checks}
use Rattle.yw_state.specs.declared.event.Event.TheVariants as events

pub complete_sub-requires-clause-may : goal.complete_sub-requires-clause-may
complete_sub-requires-clause-may c =
    let is = outer_found c.args.standing.now c.args.j.now c.outer_net.result c.in-Some.outer c.in-Some.is (c.outer_net.ensures _ c.requires.stands.held) in
    sub_may_end c.args.standing.now c.requires.stands c.args.j.now (ends_so c.args.standing.now c.requires.stands c.args.j.now c.requires.leads) (with_state c.in-Some.outer is.state) is.here

pub returns : goal.returns
returns c =
    let old = c.args.standing.now in
    let j = c.args.j.now in
    let is = outer_found old j c.outer_net.result c.in-Some.outer c.in-Some.is (c.outer_net.ensures _ c.requires.stands.held) in
    let new = c.complete_sub.new.forest in
    if_ok c.complete_sub.result (λ _. CompletesSub c.in-Some.outer.spec.now j no_checks old.forest new) (λ _. IsDone old (events.CompleteSub j) (record old { forest = new }))
    c.complete_sub.ensures.ok
    (λ _ does. ended old c.requires.stands j (ends_so old c.requires.stands j c.requires.leads) (with_state c.in-Some.outer is.state) is.here new does)

pub unreachable-requires : goal.unreachable-requires
unreachable-requires c =
    outer_none c.args.standing.now c.args.j.now c.outer_net.result c.in_default.is (c.outer_net.ensures _ c.requires.stands.held) CompleteSub
    (and_left _ _ (ends_so c.args.standing.now c.requires.stands c.args.j.now c.requires.leads))
