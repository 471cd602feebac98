use Rattle.std.proofs.Common.{◌-◌, length}
use Rattle.yw_lex.proofs.FrontLemmas.{IsNumberSoFar}
use Rattle.yw_lex.proofs.scan.number_len.Given as goal

abbrev pub invariant-digits : goal.invariant-digits
invariant-digits l = IsNumberSoFar l.bytes l.len l.number

abbrev pub decreases-digits : goal.decreases-digits
decreases-digits l = length l.bytes - l.len
