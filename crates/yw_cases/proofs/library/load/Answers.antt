use Rattle.yw_cases.proofs.Loads.{load_done}
use Rattle.yw_cases.proofs.library.load.Goals as goal

pub returns-in-Ok-clause-ok : goal.returns-in-Ok-clause-ok
returns-in-Ok-clause-ok c =
    load_done c.args.standing.now c.requires c.load.new.self c.in-Ok.name c.args.text.now c.in-Ok.ensures.ok c.in-Ok.ensures.place
