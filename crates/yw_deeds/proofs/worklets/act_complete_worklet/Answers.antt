use Rattle.std.proofs.Common.{ap, sym, ◌∙◌}
use Rattle.std.specs.Option.{option_copied}
use Rattle.yw_deeds.proofs.WorkletsGo.{ended, ends_there, item_wanted, net_wanted}
use Rattle.yw_deeds.proofs.worklets.act_complete_worklet.Goals as goal
use Rattle.yw_standing.specs.Tried.{IsDone}
use Rattle.yw_nest.proofs.Results.{if_ok}
use Rattle.yw_state.specs.declared.event.Event.TheVariants as events
use Rattle.yw_worklet.specs.Ends.{CompletesWorklet}

pub unreachable-requires : goal.unreachable-requires
unreachable-requires c = item_wanted c.args.standing.now c.args.j.now c.requires.held c.requires.leads c.known_task.result c.in_default.is (c.known_task.ensures _ c.requires.held)

pub unreachable-requires-in_default-known_net : goal.unreachable-requires-in_default-known_net
unreachable-requires-in_default-known_net c = net_wanted c.args.standing.now c.args.j.now c.requires.held c.requires.leads c.known_net.result c.in_default-known_net.is (c.known_net.ensures _ c.requires.held)

pub complete_worklet-requires-clause-may : goal.complete_worklet-requires-clause-may
complete_worklet-requires-clause-may c =
    ends_there c.args.standing.now c.args.j.now c.requires.held c.requires.leads c.in-Some-known_net.inner.spec.now (c.in-Some-known_net.ensures _ c.requires.held).here.of_state

pub returns : goal.returns
returns c =
    let old = c.args.standing.now in
    let j = c.args.j.now in
    let task = c.in-Some.item.now in
    let worklet = c.in-Some-known_net.inner.spec.now in
    let new = c.complete_worklet.new.forest in
    if_ok c.complete_worklet.result (λ _. CompletesWorklet task worklet j c.args.due old.forest new) (λ _. IsDone old (events.CompleteWorklet j) (record old { forest = new }))
    c.complete_worklet.ensures.ok
    (λ _ does. ended old j c.requires.held c.requires.leads task worklet c.args.due new
    (record {
      item = sym (c.known_task.ensures _ c.requires.held) ∙ ap option_copied c.in-Some.is;
      inner = (c.in-Some-known_net.ensures _ c.requires.held).here.of_state;
      checks = c.requires.due;
    })
    does)
