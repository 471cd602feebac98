use Rattle.yw_reach.proofs.MarkLemmas.{one_marked}
use Rattle.yw_reach.proofs.PathLemmas.{from_one}
use Rattle.yw_reach.proofs.paths.reached.Goals as goal

pub returns : goal.returns
returns c = from_one c.args.count c.args.from c.args.flows.now _ _ (one_marked c.args.count c.args.from _ _ c.requires.from c.in_ok-starts.ensures c.mark.ensures) c.in_ok-marks.ensures
