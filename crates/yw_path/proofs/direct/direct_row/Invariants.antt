use Rattle.std.proofs.Common.{take}
use Rattle.std.specs.Prelude.{Contains}
use Rattle.yw_path.proofs.direct.direct_row.Given as goal
use Rattle.yw_path.specs.Direct.{IsDirectRow}

abbrev pub invariant-loop-c : goal.invariant-loop-c
invariant-loop-c l = IsDirectRow l.count l.t (Contains (take l.c-index l.places)) l.into l.row
