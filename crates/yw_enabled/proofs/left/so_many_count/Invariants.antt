use Rattle.std.proofs.Common.{drop, ◌≡◌, ◌+◌}
use Rattle.std.specs.Prelude.{count_by}
use Rattle.yw_enabled.proofs.left.so_many_count.Given as goal
use Rattle.yw_enabled.specs.Left.{is_done}

abbrev pub invariant-loop-i : goal.invariant-loop-i
invariant-loop-i l = l.spare + l.wanted ≡ l.i + count_by is_done (drop l.i l.nodes)
