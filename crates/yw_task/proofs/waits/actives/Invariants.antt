use Rattle.std.proofs.Common.{◌<◌, ◌≡◌, ℕ, false, get_or, length}
use Rattle.yw_task.proofs.waits.actives.Given as goal
use Rattle.yw_task.specs.Asked.{is_active}

abbrev pub invariant-loop-t : goal.invariant-loop-t
invariant-loop-t l = (length l.active ≡ 256) × ((k : ℕ) → k < l.t → is_active l.state k ≡ get_or l.active k false)
