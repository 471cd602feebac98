use Rattle.yw_deeds.proofs.MarksGo.{continue_stands, continued}
use Rattle.yw_deeds.proofs.marks.act_continue.Goals as goal

pub resume-requires-clause-stands : goal.resume-requires-clause-stands
resume-requires-clause-stands c = continue_stands c.args.standing.now c.requires.held c.args.j.now c.requires.leads

pub returns : goal.returns
returns c = continued c.args.standing.now c.requires.held c.args.j.now c.requires.leads c.resume.new.forest c.resume.ensures
