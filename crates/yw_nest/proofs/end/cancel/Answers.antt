use Rattle.yw_nest.proofs.CaseEnds.{cancelled}
use Rattle.yw_nest.proofs.end.cancel.Goals as goal

pub returns : goal.returns
returns c = cancelled c.args.forest.now c.remove_case.new.forest c.args.n c.remove_case.ensures.sites c.remove_case.ensures.boxed
