use Rattle.yw_outside.proofs.Timed.{whole_write_goes}
use Rattle.yw_outside.proofs.never_desk.NeverDeskDesk.write.Goals as goal

pub returns-clause-time : goal.returns-clause-time
returns-clause-time c = whole_write_goes c.args.self.now.disk c.write-kept.new.self c.write-kept.result c.args.f c.args.at c.args.bytes.now c.requires.within c.write-kept.ensures.adds
