use Rattle.std.proofs.Common.{◌≡◌, ◌≤◌, ◌+◌, ◌-◌, List, ℕ, Some, vec_len}
use Rattle.yw_outside.specs.declared.piece.TheConstants.{PIECE_BYTES}
use Rattle.yw_judge.specs.Taken.{HasTaken}
use Rattle.yw_judge.proofs.input.read_text.Given as goal

abbrev pub invariant-loop-source : goal.invariant-loop-source
invariant-loop-source g l =
    let S = g.S.Source in
    record {
      room : vec_len l.piece ≡ PIECE_BYTES;
      small : vec_len l.text ≤ l.limit + 1;
      none_failed : S.faults l.source ≡ S.faults l.fn.source;
      taken : (bytes : List ℕ) → S.left l.fn.source ≡ Some bytes → HasTaken bytes l.text.items (S.left l.source);
    }

abbrev pub decreases-loop-source : goal.decreases-loop-source
decreases-loop-source g l = l.limit + 1 - vec_len l.text
