use Rattle.yw_outside.proofs.Timed.{look_goes}
use Rattle.yw_outside.proofs.disk.Disk.look.Goals as goal

pub returns-clause-time : goal.returns-clause-time
returns-clause-time c = look_goes c.args.self.now c.keep_look.new.self c.keep_look.result c.keep_look.ensures
