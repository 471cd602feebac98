use Rattle.yw_nest.proofs.CaseEnds.{finished}
use Rattle.yw_nest.proofs.end.finish.Goals as goal

pub returns : goal.returns
returns c = finished c.args.forest.now c.remove_case.new.forest c.args.n c.remove_case.ensures.sites c.remove_case.ensures.boxed
