use Rattle.std.proofs.Common.{take}
use Rattle.std.specs.Prelude.{Contains}
use Rattle.yw_path.proofs.direct.push_each.Given as goal
use Rattle.yw_path.specs.Direct.{PushesEach}

abbrev pub invariant-loop-c : goal.invariant-loop-c
invariant-loop-c l = PushesEach (Contains (take l.c-index l.places)) l.t l.fn.into.items l.into.items
