use Rattle.std.proofs.Common.{ap, sym, ◌∙◌}
use Rattle.std.specs.Option.{option_copied}
use Rattle.yw_deeds.proofs.WorkletsGo.{begins_there, begun, chosen_item, chosen_spec}
use Rattle.yw_deeds.proofs.worklets.act_substitute.Goals as goal
use Rattle.yw_standing.specs.Tried.{IsDone}
use Rattle.yw_nest.proofs.Results.{if_ok}
use Rattle.yw_state.specs.declared.event.Event.TheVariants as events
use Rattle.yw_worklet.specs.Chosen.{Substitutes}

pub unreachable-requires : goal.unreachable-requires
unreachable-requires c =
    chosen_item c.args.standing.now c.args.j.now c.args.name.now c.requires.held c.requires.leads c.known_task.result c.in_default.is (c.known_task.ensures _ c.requires.held)

pub unreachable-requires-in_default-spec_named : goal.unreachable-requires-in_default-spec_named
unreachable-requires-in_default-spec_named c =
    chosen_spec c.args.standing.now c.args.j.now c.args.name.now c.requires.held c.requires.leads c.in_default-spec_named.ensures

pub substitute-requires-clause-may : goal.substitute-requires-clause-may
substitute-requires-clause-may c =
    begins_there c.args.standing.now c.args.j.now c.args.name.now c.requires.held c.requires.leads c.in-Some-spec_named.worklet.now c.in-Some-spec_named.number
    c.in-Some-spec_named.ensures

pub returns : goal.returns
returns c =
    let old = c.args.standing.now in
    let j = c.args.j.now in
    let name = c.args.name.now in
    let task = c.in-Some.item.now in
    let worklet = c.in-Some-spec_named.worklet.now in
    let number = c.in-Some-spec_named.number in
    let new = c.substitute.new.forest in
    if_ok c.substitute.result (λ _. Substitutes task worklet number j old.forest new) (λ _. IsDone old (events.Substitute j name) (record old { forest = new })) c.substitute.ensures.ok
    (λ _ does. begun old j name c.requires.held c.requires.leads worklet number c.in-Some-spec_named.ensures task new
    (sym (c.known_task.ensures _ c.requires.held) ∙ ap option_copied c.in-Some.is) does)
