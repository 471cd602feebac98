use Rattle.yw_deeds.proofs.MarksGo.{suspend_stands, suspended}
use Rattle.yw_deeds.proofs.marks.act_suspend.Goals as goal

pub suspend-requires-clause-stands : goal.suspend-requires-clause-stands
suspend-requires-clause-stands c = suspend_stands c.args.standing.now c.requires.held c.args.j.now c.requires.leads

pub returns : goal.returns
returns c = suspended c.args.standing.now c.requires.held c.args.j.now c.requires.leads c.suspend.new.forest c.suspend.ensures
