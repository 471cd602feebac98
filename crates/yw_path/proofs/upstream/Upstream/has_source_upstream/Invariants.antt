use Rattle.std.proofs.Common.{◌≡◌, ℕ, ◌+◌, ◌*◌, ◌<◌, false, get_or}
use Rattle.std.specs.Int.{bit_at}
use Rattle.yw_path.proofs.upstream.Upstream.has_source_upstream.Given as goal
use Rattle.yw_path.specs.Upstream.{is_source, row_of}

abbrev pub invariant-loop-w : goal.invariant-loop-w
invariant-loop-w l = (w b : ℕ) → w < l.w → b < 64 → bit_at (get_or (row_of l.self l.c) w 0) b ≡ 1 → is_source l.self l.marks l.active (64 * w + b) ≡ false
