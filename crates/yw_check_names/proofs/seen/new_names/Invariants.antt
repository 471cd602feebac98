use Rattle.std.proofs.Common.{map}
use Rattle.yw_accept.specs.Faults.{in_net}
use Rattle.yw_accept.specs.Names.{IsNew}
use Rattle.yw_check_names.specs.Seen.{Knows}
use Rattle.yw_check_names.proofs.Trying.{TriedSoFar}
use Rattle.yw_check_names.proofs.seen.new_names.Given as goal

abbrev pub invariant-loop-item : goal.invariant-loop-item
invariant-loop-item g l = TriedSoFar Knows (IsNew (in_net 1 l.net)) l.initial.seen l.seen (map g.T.Named.name_of l.items) l.item-index
