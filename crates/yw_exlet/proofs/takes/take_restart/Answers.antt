use Rattle.std.proofs.Common.{ap, refl, ◌∙◌}
use Rattle.yw_exlet.proofs.Stands.{bare_but_run, bare_still, kept_at, run_alone, run_alone_there, run_there, target_but, target_item, target_still, there}
use Rattle.yw_exlet.proofs.Taking.{taken_by}
use Rattle.yw_exlet.specs.Stands.{BareRunAt, is_bare_run}
use Rattle.yw_exlet.specs.Takes.{anew, restarts}
use Rattle.yw_state.specs.Map.{update}
use Rattle.yw_tree.specs.Places.{run_of}
use Rattle.yw_exlet.proofs.takes.take_restart.Goals as goal

pub take_first-requires-clause-stands : goal.take_first-requires-clause-stands
take_first-requires-clause-stands c = run_there c.args.forest.now c.requires.boxed c.args.r.now c.numbers-run.ensures.identity c.requires.runs

pub bare_but_run-requires-clause-alone : goal.bare_but_run-requires-clause-alone
bare_but_run-requires-clause-alone c =
    let f = c.take_first.new.forest in
    let r = c.args.r.now in
    let i = c.numbers-run.ensures.identity in
    let bare : BareRunAt f r = bare_still c.args.forest.now f r c.take_first.ensures.sites c.requires.runs in
    run_alone_there (run_of f r) (run_there f c.take_first.ensures.boxed r i bare) (run_alone f c.take_first.ensures.boxed r i bare)

pub restart-requires-clause-stands : goal.restart-requires-clause-stands
restart-requires-clause-stands c =
    let f = c.take_first.new.forest in
    let g = c.bare_but_run.new.self in
    let r = c.args.r.now in
    let j = c.args.j.now in
    target_item g c.bare_but_run.ensures.kept j c.numbers-target.ensures.identity c.requires.item
    (target_but f g r j c.requires.target c.bare_but_run.ensures.sites (target_still c.args.forest.now f r c.take_first.ensures.sites j c.requires.stands))

pub end_if_over-requires-clause-alone : goal.end_if_over-requires-clause-alone
end_if_over-requires-clause-alone c =
    let f = c.take_first.new.forest in
    let g = c.bare_but_run.new.self in
    let h = c.restart.new.forest in
    let r = c.args.r.now in
    let j = c.args.j.now in
    run_alone h c.restart.ensures.boxed r c.numbers-run.ensures.identity
    (kept_at g h j r (anew c.args.due) is_bare_run (λ x. refl) c.restart.ensures.sites
    (bare_but_run f g r j c.requires.target c.bare_but_run.ensures.sites (bare_still c.args.forest.now f r c.take_first.ensures.sites c.requires.runs)))

pub returns-clause-takes : goal.returns-clause-takes
returns-clause-takes c =
    let f = c.take_first.new.forest in
    let g = c.bare_but_run.new.self in
    let r = c.args.r.now in
    let j = c.args.j.now in
    taken_by r c.args.forest.now f c.take_first.ensures.sites (restarts r j c.args.due) c.restart.new.forest c.end_if_over.new.forest
    (λ names. c.restart.ensures.sites names ∙ ap (λ m. update m j (anew c.args.due)) (there f g r j c.requires.target c.bare_but_run.ensures.sites names)) c.end_if_over.ensures.ends
