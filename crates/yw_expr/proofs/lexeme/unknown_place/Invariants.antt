use Rattle.std.proofs.Common.{◌≡◌, drop}
use Rattle.std.specs.Prelude.{find}
use Rattle.yw_expr.specs.Lexemes.{is_unknown}
use Rattle.yw_expr.proofs.lexeme.unknown_place.Given as goal

abbrev pub invariant-loop-lexeme : goal.invariant-loop-lexeme
invariant-loop-lexeme l = find (is_unknown l.text l.scope) l.lexemes ≡ find (is_unknown l.text l.scope) (drop l.lexeme-index l.lexemes)
