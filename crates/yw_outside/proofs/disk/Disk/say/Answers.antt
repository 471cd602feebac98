use Rattle.std.proofs.Common.{true, false}
use Rattle.yw_outside.proofs.Timed.{say_goes}
use Rattle.yw_outside.proofs.disk.Disk.say.Goals as goal

pub returns-then-done-clause-time : goal.returns-then-done-clause-time
returns-then-done-clause-time c = say_goes c.args.self.now c.keep_say.new.self c.keep_say.result c.args.bytes.now true c.keep_say.ensures

pub returns-else-done-clause-time : goal.returns-else-done-clause-time
returns-else-done-clause-time c = say_goes c.args.self.now c.keep_look.new.self c.keep_look.result c.args.bytes.now false c.keep_look.ensures
