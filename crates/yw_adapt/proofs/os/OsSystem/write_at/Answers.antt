use Rattle.std.proofs.Common.{◌∙◌, arith}
use Rattle.yw_adapt.proofs.os.OsSystem.write_at.Goals as goal

pub loop-self-smaller : goal.loop-self-smaller
loop-self-smaller g c = grind arith

pub loop-self-preserved : goal.loop-self-preserved
loop-self-preserved g c =
    let (more, same) = c.loop-self.invariant in
    (grind arith, c.in_ok-count.ensures.counts.failed.one ∙ same)
