use Rattle.std.proofs.Common.{◌≡◌, ◌*◌, ◌^◌, take, pos, neg_ℤ, ◌≤ℤ◌}
use Rattle.yw_expr.specs.Meaning.{total}
use Rattle.yw_expr.proofs.value.sum_of.Given as goal

-- the sum so far, and how large it may be
abbrev pub invariant-loop-x : goal.invariant-loop-x
invariant-loop-x l = record {
  value : l.sum ≡ total (take l.x-index l.xs);
  low : neg_ℤ (pos (l.x-index * 2 ^ 63)) ≤ℤ l.sum;
  high : l.sum ≤ℤ pos (l.x-index * 2 ^ 63);
}
