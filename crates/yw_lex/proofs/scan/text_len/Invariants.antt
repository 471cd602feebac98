use Rattle.std.proofs.Common.{◌-◌, length}
use Rattle.yw_lex.proofs.FrontLemmas.{IsTextSoFar}
use Rattle.yw_lex.proofs.scan.text_len.Given as goal

abbrev pub invariant-text : goal.invariant-text
invariant-text l = IsTextSoFar l.bytes l.len

abbrev pub decreases-text : goal.decreases-text
decreases-text l = length l.bytes - l.len
