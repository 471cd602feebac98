use Rattle.std.proofs.Common.{◌≡◌, ℕ, ◌<◌, ◌≤◌, get_or}
use Rattle.std.specs.Prelude.{bit_or}
use Rattle.yw_path.proofs.bits.join_words.Given as goal

abbrev pub invariant-loop-w : goal.invariant-loop-w
invariant-loop-w l = record {
  done : (i : ℕ) → i < l.w → get_or l.words i 0 ≡ bit_or (get_or l.fn.words i 0) (get_or l.other i 0);
  rest : (i : ℕ) → l.w ≤ i → get_or l.words i 0 ≡ get_or l.fn.words i 0;
}
