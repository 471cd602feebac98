use Rattle.std.proofs.Common.{◌≡◌, take}
use Rattle.yw_lex.specs.Spelling.{number_of}
use Rattle.yw_expr.proofs.lexeme.number_of.Given as goal

abbrev pub invariant-loop-digit : goal.invariant-loop-digit
invariant-loop-digit l = l.number ≡ number_of (take l.digit-index l.digits)
