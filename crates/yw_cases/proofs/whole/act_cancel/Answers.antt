use Rattle.yw_cases.proofs.Ending.{cancelled, cancels_so}
use Rattle.yw_cases.proofs.whole.act_cancel.Goals as goal

pub returns : goal.returns
returns c =
    cancelled c.args.standing.now c.requires.stands c.args.n c.cancel.new.forest c.put.new.self (cancels_so c.args.standing.now c.requires.stands c.args.n c.requires.leads)
    c.in_ok-put.ensures.ok c.cancel.ensures
