use Rattle.std.proofs.Common.{true, false}
use Rattle.yw_outside.proofs.Timed.{sync_goes}
use Rattle.yw_outside.proofs.disk.Disk.sync.Goals as goal

pub returns-then-done-clause-time : goal.returns-then-done-clause-time
returns-then-done-clause-time c = sync_goes c.args.self.now c.keep_sync.new.self c.keep_sync.result c.args.f true c.keep_sync.ensures

pub returns-else-done-clause-time : goal.returns-else-done-clause-time
returns-else-done-clause-time c = sync_goes c.args.self.now c.keep_look.new.self c.keep_look.result c.args.f false c.keep_look.ensures
