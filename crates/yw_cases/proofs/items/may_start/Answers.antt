use Rattle.std.proofs.Common.{sym}
use Rattle.yw_cases.proofs.ItemsGo.{tells_start}
use Rattle.yw_cases.proofs.items.may_start.Goals as goal

pub returns : goal.returns
returns c = tells_start c.args.standing.now c.requires c.args.j.now c.args._who.now c.item_goes.result (sym c.item_goes.ensures)
