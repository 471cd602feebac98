use Rattle.std.proofs.Common.{ap, subst, sym, ◌∙◌}
use Rattle.std.specs.Option.{option_copied}
use Rattle.std.specs.Prelude.{option_map}
use Rattle.yw_deeds.proofs.RunsGo.{case_found, named_so, run_below, run_may, taken, within_so}
use Rattle.yw_deeds.proofs.runs.act_prim.Goals as goal
use Rattle.yw_deeds.specs.Runs.{Notes, its_net, its_task, named_in}
use Rattle.yw_standing.specs.State.{state_of}
use Rattle.yw_standing.specs.Tried.{IsDone}
use Rattle.yw_exlet.specs.Needs.{named_spec}
use Rattle.yw_nest.proofs.Results.{if_ok}
use Rattle.yw_state.specs.Identity.{case_ident}
use Rattle.yw_state.specs.State.{item_at, net_at}
use Rattle.yw_state.specs.declared.event.Event.TheVariants as events

pub target_of-requires : goal.target_of-requires
target_of-requires c = run_below c.args.standing.now c.requires.held c.args.r.now c.args.primitive.now c.requires.leads

pub unreachable-requires : goal.unreachable-requires
unreachable-requires c =
    let h = c.args.standing.now in
    case_found h c.requires.held c.args.r.now c.args.primitive.now c.requires.leads c.net_of_case.result c.in_default.is
    (c.net_of_case.ensures _ c.requires.held ∙ ap (λ n. option_map its_net (net_at (state_of h) (case_ident n))) c.case_number-n.ensures)

pub prim-requires-clause-may : goal.prim-requires-clause-may
prim-requires-clause-may c =
    let h = c.args.standing.now in
    run_may h c.requires.held c.args.r.now c.args.primitive.now c.requires.leads (option_copied c.known_task-item.result)
    (c.known_task-item.ensures _ c.requires.held ∙ ap (λ k. option_map its_task (item_at (state_of h) k)) c.in_ok-target.ensures)

pub prim-requires-clause-within : goal.prim-requires-clause-within
prim-requires-clause-within c = within_so c.args.standing.now.known (named_in c.args.primitive.now) c.compensation-comp.result c.compensation-comp.ensures

pub returns : goal.returns
returns c =
    let h = c.args.standing.now in
    let s = state_of h in
    let r = c.args.r.now in
    let p = c.args.primitive.now in
    let f = c.prim.new.forest in
    let es = c.note.new.ended in
    let item = option_copied c.known_task-item.result in
    let comp = option_map named_spec c.compensation-comp.result in
    if_ok c.note.result (λ _. Notes c.in_ok-outcome.outcome c.case_number-n.result h.ended es) (λ _. IsDone h (events.Prim r p) (record h { forest = f; ended = es })) c.note.ensures
    (λ _ notes. taken h c.requires.held r p c.requires.leads f es c.in-Some.top.now item comp c.args.due c.in_ok-outcome.outcome
    (record {
      net = ap (λ n. option_map its_net (net_at s (case_ident n))) (sym c.case_number-n.ensures) ∙ sym (c.net_of_case.ensures _ c.requires.held) ∙ ap option_copied c.in-Some.is;
      task = ap (λ k. option_map its_task (item_at s k)) (sym c.in_ok-target.ensures) ∙ sym (c.known_task-item.ensures _ c.requires.held);
      spec = named_so h.known h.forest s c.requires.held p c.compensation-comp.result c.compensation-comp.ensures;
      select = c.requires.due;
    })
    c.in_ok-outcome.ensures.ok c.in_ok-outcome.ensures.outcome (subst (λ n. Notes c.in_ok-outcome.outcome n h.ended es) c.case_number-n.ensures notes))
