use Rattle.std.proofs.Common.{map, take}
use Rattle.yw_check_names.specs.Seen.{AddsAll}
use Rattle.yw_check_names.proofs.seen.add_all.Given as goal

abbrev pub invariant-loop-item : goal.invariant-loop-item
invariant-loop-item g l = AddsAll l.initial.set l.set (take l.item-index (map g.T.Named.name_of l.items))
