use Rattle.yw_cases.proofs.Loads.{loads_as}
use Rattle.yw_cases.proofs.library.load_as.Goals as goal

pub returns : goal.returns
returns c =
    loads_as c.args.standing.now c.requires c.load_as.new.self c.args.name.now c.args.text.now c.load_as.result c.load_as.ensures.tried c.load_as.ensures.place
