use Rattle.std.proofs.Common.{sym}
use Rattle.yw_breaks.proofs.launch.unwanted_at.Goals as goal

pub unwanted-requires : goal.unwanted-requires
unwanted-requires c = (c.requires.nets c.args.spec.now.top c.in-Some.net.now (sym c.in-Some.ensures)).vars
