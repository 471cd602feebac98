use Rattle.std.proofs.Common.{◌≡◌, ℕ, ◌+◌, ◌<◌, false}
use Rattle.std.specs.Int.{bit_at}
use Rattle.yw_path.proofs.upstream.Upstream.has_source.Given as goal
use Rattle.yw_path.specs.Upstream.{is_source}

abbrev pub invariant-loop-b : goal.invariant-loop-b
invariant-loop-b l = (k : ℕ) → k < l.b → bit_at l.word k ≡ 1 → is_source l.self l.marks l.active (l.first + k) ≡ false
