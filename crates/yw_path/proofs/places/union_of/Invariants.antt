use Rattle.std.proofs.Common.{take}
use Rattle.std.specs.Prelude.{Contains}
use Rattle.yw_path.proofs.places.union_of.Given as goal
use Rattle.yw_path.specs.Places.{IsUnion}

abbrev pub invariant-loop-t : goal.invariant-loop-t
invariant-loop-t l = IsUnion l.count (Contains (take l.t-index l.tasks)) l.rows l.row
