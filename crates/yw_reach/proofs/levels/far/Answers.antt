use Rattle.yw_reach.proofs.PathLemmas.{from_level}
use Rattle.yw_reach.proofs.levels.far.Goals as goal

pub returns : goal.returns
returns c = from_level c.args.count c.args.from c.args.steps c.args.flows.now c.in_ok-level.level _ c.in_ok-level.ensures c.in_ok-marks.ensures
