use Rattle.std.proofs.Common.{length, ◌+◌, ◌≡◌, ◌≤◌}
use Rattle.yw_tree.specs.Ways.{last_by, last_place}
use Rattle.yw_tree.proofs.descend.last_place.Given as goal

abbrev pub invariant-loop-size : goal.invariant-loop-size
invariant-loop-size l = record { inside : l.low + l.size ≤ length l.list.items; same : last_by l.size l.id l.list.items l.low l.size ≡ last_place l.id l.list.items }

abbrev pub decreases-loop-size : goal.decreases-loop-size
decreases-loop-size l = l.size
