use Rattle.std.proofs.Common.{sym}
use Rattle.yw_cases.proofs.Loads.{tells_person}
use Rattle.yw_cases.proofs.library.may_person.Goals as goal

pub returns : goal.returns
returns c = tells_person c.args._standing.now c.args._name.now c.args.roles.now c.are_roles.result (sym c.are_roles.ensures)
