use Rattle.std.proofs.Common.{sym}
use Rattle.yw_cases.proofs.ItemsGo.{tells_empty}
use Rattle.yw_cases.proofs.items.may_complete_empty.Goals as goal

pub returns : goal.returns
returns c = tells_empty c.args.standing.now c.requires c.args.j.now c.item_goes.result (sym c.item_goes.ensures)
