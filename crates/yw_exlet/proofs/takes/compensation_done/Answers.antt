use Rattle.yw_exlet.proofs.Stands.{bared_still, goes_bare_run, kept_at, run_alone, run_stands, run_there}
use Rattle.yw_exlet.proofs.Taking.{compensated}
use Rattle.yw_exlet.proofs.takes.compensation_done.Goals as goal
use Rattle.yw_exlet.specs.Stands.{is_bare_run}
use Rattle.yw_state.specs.After.{with_run}
use Rattle.yw_state.specs.Exlets.{going_on}

pub bare_run-requires-clause-stands : goal.bare_run-requires-clause-stands
bare_run-requires-clause-stands c = run_stands c.args.forest.now c.requires.boxed c.args.r.now c.numbers-run.ensures.identity c.requires.runs

pub go_on-requires-clause-stands : goal.go_on-requires-clause-stands
go_on-requires-clause-stands c =
    let g = c.bare_run.new.self in
    let r = c.args.r.now in
    run_there g c.bare_run.ensures.kept r c.numbers-run.ensures.identity (bared_still c.args.forest.now g r c.bare_run.ensures.sites c.requires.runs)

pub end_if_over-requires-clause-alone : goal.end_if_over-requires-clause-alone
end_if_over-requires-clause-alone c =
    let g = c.bare_run.new.self in
    let h = c.go_on.new.forest in
    let r = c.args.r.now in
    run_alone h c.go_on.ensures.boxed r c.numbers-run.ensures.identity
    (kept_at g h r r (with_run going_on) is_bare_run goes_bare_run c.go_on.ensures.sites (bared_still c.args.forest.now g r c.bare_run.ensures.sites c.requires.runs))

pub returns : goal.returns
returns c =
    compensated c.args.r.now c.args.forest.now c.bare_run.new.self c.go_on.new.forest c.end_if_over.new.forest c.end_if_over.ensures.boxed c.bare_run.ensures.sites c.go_on.ensures.sites
    c.end_if_over.ensures.ends
