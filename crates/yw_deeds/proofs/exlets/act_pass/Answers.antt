use Rattle.yw_deeds.proofs.ExletsGo.{pass_stands, passed}
use Rattle.yw_deeds.proofs.exlets.act_pass.Goals as goal

pub pass-requires-clause-stands : goal.pass-requires-clause-stands
pass-requires-clause-stands c = pass_stands c.args.standing.now c.requires.held c.args.at.now c.args.check c.requires.leads

pub returns : goal.returns
returns c = passed c.args.standing.now c.requires.held c.args.at.now c.args.check c.requires.leads c.pass.new.forest c.pass.ensures
