use Rattle.std.proofs.Common.{subst}
use Rattle.yw_loose.proofs.Following.{put_in}
use Rattle.yw_loose.proofs.counts.Counts.put.Goals as goal
use Rattle.yw_loose.specs.Counts.{Puts}
use Rattle.yw_loose.specs.declared.counts.Counts.{Counts}
use Rattle.yw_state.specs.Identity.{Ident}

pub returns : goal.returns
returns c =
    let new : Counts = record { nets = c.insert.new.self } in
    subst (λ (i : Ident). Puts c.args.self.now new i c.args.counts) c.in_ok-copy.ensures
    (put_in c.args.self.now c.make_room.new.self new c.make_room.ensures c.in_ok-copy.field-0 c.args.counts c.in_ok-insert.ensures.updates)
