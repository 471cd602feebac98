use Rattle.std.proofs.Common.{take}
use Rattle.std.specs.Prelude.{Contains}
use Rattle.yw_path.proofs.bits.BitRow.insert_all.Given as goal
use Rattle.yw_path.specs.Bits.{Adds}

abbrev pub invariant-loop-k : goal.invariant-loop-k
invariant-loop-k l = Adds (Contains (take l.k-index l.ks)) l.fn.self l.self
