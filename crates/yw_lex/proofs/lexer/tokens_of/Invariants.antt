use Rattle.std.proofs.Common.{◌-◌, length}
use Rattle.yw_lex.proofs.TokenLemmas.{IsFront}
use Rattle.yw_lex.proofs.lexer.tokens_of.Given as goal

abbrev pub invariant-tokens : goal.invariant-tokens
invariant-tokens l = IsFront l.bytes l.at l.tokens

abbrev pub decreases-tokens : goal.decreases-tokens
decreases-tokens l = length l.bytes - l.at
