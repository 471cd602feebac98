use Rattle.yw_task.proofs.RegionLaw.{empties}
use Rattle.yw_task.proofs.region.empty_region.Goals as goal

pub returns-clause-region : goal.returns-clause-region
returns-clause-region c = empties c.args.net.now c.args.t c.args.state.now c.clear_region.new.state c.task_at.result.now c.task_at.ensures c.clear_region.ensures.turns
