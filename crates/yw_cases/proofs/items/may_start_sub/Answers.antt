use Rattle.std.proofs.Common.{sym}
use Rattle.yw_cases.proofs.ItemsGo.{tells_begun}
use Rattle.yw_cases.proofs.items.may_start_sub.Goals as goal

pub returns : goal.returns
returns c = tells_begun c.args.standing.now c.requires c.args.j.now c.item_goes.result (sym c.item_goes.ensures)
