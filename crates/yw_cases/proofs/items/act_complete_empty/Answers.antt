use Rattle.yw_cases.proofs.ItemsGo.{empties_so, empty_completed, empty_there}
use Rattle.yw_cases.proofs.items.act_complete_empty.Goals as goal

pub complete_empty-requires-clause-stands : goal.complete_empty-requires-clause-stands
complete_empty-requires-clause-stands c =
    empty_there c.args.standing.now c.requires.stands c.args.j.now (empties_so c.args.standing.now c.requires.stands c.args.j.now c.requires.leads)

pub returns : goal.returns
returns c =
    empty_completed c.args.standing.now c.requires.stands c.args.j.now (empties_so c.args.standing.now c.requires.stands c.args.j.now c.requires.leads)
    c.complete_empty.new.forest c.complete_empty.ensures
