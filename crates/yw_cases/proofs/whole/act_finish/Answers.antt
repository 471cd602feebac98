use Rattle.yw_cases.proofs.Ending.{finished, finishes_so}
use Rattle.yw_cases.proofs.whole.act_finish.Goals as goal

pub returns : goal.returns
returns c =
    finished c.args.standing.now c.requires.stands c.args.n c.finish.new.forest c.put.new.self (finishes_so c.args.standing.now c.requires.stands c.args.n c.requires.leads)
    c.in_ok-put.ensures.ok c.finish.ensures
