use Rattle.std.proofs.Common.{refl}
use Rattle.yw_exlet.proofs.Stands.{bare_still, no_net_there, run_alone, run_stands, run_there, runs_bare}
use Rattle.yw_exlet.proofs.Taking.{waits_for}
use Rattle.yw_exlet.specs.Stands.{BareRunAt, is_run}
use Rattle.yw_state.specs.After.{stands}
use Rattle.yw_state.specs.Map.{get}
use Rattle.std.proofs.Common.{ap, ◌∙◌}
use Rattle.yw_exlet.proofs.Stands.{kept_test}
use Rattle.yw_state.specs.Options.{is_some_and}
use Rattle.yw_tree.specs.Entries.{net_part}
use Rattle.yw_tree.specs.Forest.{sites_of}
use Rattle.yw_tree.specs.Places.{run_of}
use Rattle.yw_exlet.proofs.takes.take_compensation.Goals as goal

pub take_first-requires-clause-stands : goal.take_first-requires-clause-stands
take_first-requires-clause-stands c = run_there c.args.forest.now c.requires.boxed c.args.r.now c.numbers-run.ensures.identity c.requires.runs

pub attach_run_net-requires-clause-stands : goal.attach_run_net-requires-clause-stands
attach_run_net-requires-clause-stands c =
    let f = c.take_first.new.forest in
    let r = c.args.r.now in
    run_there f c.take_first.ensures.boxed r c.numbers-run.ensures.identity (bare_still c.args.forest.now f r c.take_first.ensures.sites c.requires.runs)

pub attach_run_net-requires-clause-vacant : goal.attach_run_net-requires-clause-vacant
attach_run_net-requires-clause-vacant c =
    let f = c.take_first.new.forest in
    let r = c.args.r.now in
    no_net_there (run_of f r) (run_alone f c.take_first.ensures.boxed r c.numbers-run.ensures.identity (bare_still c.args.forest.now f r c.take_first.ensures.sites c.requires.runs))

pub wait-requires-clause-stands : goal.wait-requires-clause-stands
wait-requires-clause-stands c =
    let f = c.take_first.new.forest in
    let g = c.attach_run_net.new.self in
    let r = c.args.r.now in
    let bare : BareRunAt f r = bare_still c.args.forest.now f r c.take_first.ensures.sites c.requires.runs in
    run_stands g c.attach_run_net.ensures.kept r c.numbers-run.ensures.identity
    (λ names.
    ap (λ m. is_some_and (get m r) is_run) (c.attach_run_net.ensures.sites names)
    ∙ kept_test (sites_of names f) r r (stands (net_part names c.args.net.value)) is_run (λ x. refl)
    ∙ runs_bare (get (sites_of names f) r) (bare names))

pub returns-clause-takes : goal.returns-clause-takes
returns-clause-takes c =
    waits_for c.args.r.now c.args.forest.now c.take_first.new.forest c.take_first.ensures.sites c.args.net.value c.attach_run_net.new.self c.wait.new.forest c.attach_run_net.ensures.sites c.wait.ensures.sites
