use Rattle.yw_outside.proofs.Timed.{write_goes}
use Rattle.yw_outside.proofs.disk.Disk.write.Goals as goal

pub returns-clause-time : goal.returns-clause-time
returns-clause-time c = write_goes c.args.self.now c.keep_write.new.self c.keep_write.result c.args.f c.args.at c.args.bytes.now c.args.done c.keep_write.ensures
