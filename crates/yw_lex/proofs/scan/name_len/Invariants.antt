use Rattle.std.proofs.Common.{◌≡◌, ℕ, ◌-◌, ◌<◌, ◌≤◌, true, length, get_or}
use Rattle.yw_base.specs.Spelling.{is_word_byte}
use Rattle.yw_lex.proofs.scan.name_len.Given as goal

abbrev pub invariant-words : goal.invariant-words
invariant-words l = record {
  some : 0 < l.len;
  few : l.len ≤ 64;
  within : l.len ≤ length l.bytes;
  words : (k : ℕ) → k < l.len → is_word_byte (get_or l.bytes k 0) ≡ true;
}

abbrev pub decreases-words : goal.decreases-words
decreases-words l = length l.bytes - l.len
