use Rattle.std.proofs.Common.{◌≡◌, ◌≤◌, drop, length}
use Rattle.yw_revive.proofs.Taking.{onto}
use Rattle.yw_revive.proofs.tokens.take_tokens.Given as goal
use Rattle.yw_revive.specs.Taken.{taken}

-- those so far, and those of the places that are left
abbrev pub invariant-loop-place : goal.invariant-loop-place
invariant-loop-place l = record {
  within : l.next ≤ length l.fn.rows;
  so_far :
      taken l.fn.at l.fn.places (drop l.fn.from l.fn.rows) ≡ onto l.marks (taken l.fn.at (drop l.place-index l.fn.places) (drop l.next l.fn.rows));
}
