use Rattle.yw_deeds.proofs.RunsGo.{compensated, run_stands}
use Rattle.yw_deeds.proofs.runs.act_compensated.Goals as goal

pub compensation_done-requires-clause-runs : goal.compensation_done-requires-clause-runs
compensation_done-requires-clause-runs c = run_stands c.args.standing.now c.requires.held c.args.r.now c.requires.leads

pub returns : goal.returns
returns c = compensated c.args.standing.now c.requires.held c.args.r.now c.requires.leads c.compensation_done.new.forest c.compensation_done.ensures
