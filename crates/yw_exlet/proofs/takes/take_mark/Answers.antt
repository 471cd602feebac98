use Rattle.std.proofs.Common.{refl}
use Rattle.yw_exlet.proofs.Stands.{bare_still, kept_at, run_alone, run_there, target_still, target_there}
use Rattle.yw_exlet.proofs.Taking.{taken_by}
use Rattle.yw_exlet.specs.Changes.{marked}
use Rattle.yw_exlet.specs.Stands.{is_bare_run}
use Rattle.yw_exlet.specs.Takes.{marks}
use Rattle.yw_exlet.proofs.takes.take_mark.Goals as goal

pub take_first-requires-clause-stands : goal.take_first-requires-clause-stands
take_first-requires-clause-stands c = run_there c.args.forest.now c.requires.boxed c.args.r.now c.numbers-run.ensures.identity c.requires.runs

pub write-requires-clause-stands : goal.write-requires-clause-stands
write-requires-clause-stands c =
    let f = c.take_first.new.forest in
    let j = c.args.j.now in
    target_there f c.take_first.ensures.boxed j c.numbers-target.ensures.identity (target_still c.args.forest.now f c.args.r.now c.take_first.ensures.sites j c.requires.stands)

pub end_if_over-requires-clause-alone : goal.end_if_over-requires-clause-alone
end_if_over-requires-clause-alone c =
    let f = c.take_first.new.forest in
    let g = c.write.new.forest in
    let r = c.args.r.now in
    run_alone g c.write.ensures.boxed r c.numbers-run.ensures.identity
    (kept_at f g c.args.j.now r (marked c.args.suspended) is_bare_run (λ x. refl) c.write.ensures.sites (bare_still c.args.forest.now f r c.take_first.ensures.sites c.requires.runs))

pub returns-clause-takes : goal.returns-clause-takes
returns-clause-takes c =
    taken_by c.args.r.now c.args.forest.now c.take_first.new.forest c.take_first.ensures.sites (marks c.args.j.now c.args.suspended) c.write.new.forest c.end_if_over.new.forest
    c.write.ensures.sites c.end_if_over.ensures.ends
