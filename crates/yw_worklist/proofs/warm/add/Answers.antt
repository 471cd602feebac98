use Rattle.std.proofs.Common.{refl}
use Rattle.yw_worklist.proofs.Warming.{one_added}
use Rattle.yw_worklist.proofs.warm.add.Goals as goal

pub returns : goal.returns
returns c = one_added c.args.ids.now c.insert.new.self c.args.id c.args.id refl c.in_ok-insert.ensures.updates
