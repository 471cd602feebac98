use Rattle.std.proofs.Common.{map, take}
use Rattle.yw_accept.specs.Index.{IsIndexOf}
use Rattle.yw_accept.proofs.index.index_of.Given as goal

abbrev pub invariant-loop-number : goal.invariant-loop-number
invariant-loop-number g l = IsIndexOf (take l.number (map g.T.Named.name_of l.items)) l.index
