use Rattle.std.proofs.Common.{sym}
use Rattle.yw_cases.proofs.PlaceLaw.{none_there, one_there}
use Rattle.yw_cases.proofs.places.is_numbered.Goals as goal

pub returns-in-Some : goal.returns-in-Some
returns-in-Some c =
    one_there c.args.net.now c.args.place.now c.args.number c.requires c.in-Some.other.now (sym c.in-Some.ensures) c.same_place.result c.same_place.ensures

pub returns-in-None : goal.returns-in-None
returns-in-None c = none_there c.args.net.now c.args.place.now c.args.number (sym c.in-None.ensures)
