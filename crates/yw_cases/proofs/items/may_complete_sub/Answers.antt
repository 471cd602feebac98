use Rattle.std.proofs.Common.{sym}
use Rattle.yw_cases.proofs.ItemsGo.{tells_ended}
use Rattle.yw_cases.proofs.items.may_complete_sub.Goals as goal

pub returns : goal.returns
returns c = tells_ended c.args.standing.now c.requires c.args.j.now c.sub_ends.result (sym c.sub_ends.ensures)
