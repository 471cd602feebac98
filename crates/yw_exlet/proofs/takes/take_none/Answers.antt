use Rattle.std.proofs.Common.{refl}
use Rattle.yw_exlet.proofs.Stands.{bare_still, run_alone, run_there}
use Rattle.yw_exlet.proofs.Taking.{taken_by}
use Rattle.yw_exlet.specs.Takes.{none}
use Rattle.yw_exlet.proofs.takes.take_none.Goals as goal

pub take_first-requires-clause-stands : goal.take_first-requires-clause-stands
take_first-requires-clause-stands c = run_there c.args.forest.now c.requires.boxed c.args.r.now c.numbers-run.ensures.identity c.requires.runs

pub end_if_over-requires-clause-alone : goal.end_if_over-requires-clause-alone
end_if_over-requires-clause-alone c =
    let f = c.take_first.new.forest in
    let r = c.args.r.now in
    run_alone f c.take_first.ensures.boxed r c.numbers-run.ensures.identity (bare_still c.args.forest.now f r c.take_first.ensures.sites c.requires.runs)

pub returns-clause-takes : goal.returns-clause-takes
returns-clause-takes c =
    let f = c.take_first.new.forest in
    taken_by c.args.r.now c.args.forest.now f c.take_first.ensures.sites none f c.end_if_over.new.forest (λ names. refl) c.end_if_over.ensures.ends
