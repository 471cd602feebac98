use Rattle.std.proofs.Common.{arith}
use Rattle.yw_loose.proofs.Following.{first_out}
use Rattle.yw_loose.proofs.counts.Counts.make_room.Goals as goal
use Rattle.yw_loose.specs.declared.counts.Counts.{Counts}

pub returns : goal.returns
returns c =
    let new : Counts = record { nets = c.pop_first.new.self } in
    first_out c.args.self.now new c.pop_first.result (c.pop_first.ensures.variant.1 (omega arith)) c.pop_first.ensures.updates
