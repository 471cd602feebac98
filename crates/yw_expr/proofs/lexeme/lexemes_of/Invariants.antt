use Rattle.std.proofs.Common.{◌≡◌, take}
use Rattle.std.specs.List.{All}
use Rattle.yw_expr.specs.Lexemes.{lexemes_of, IsSoundLexeme}
use Rattle.yw_expr.proofs.lexeme.lexemes_of.Given as goal

abbrev pub invariant-loop-token : goal.invariant-loop-token
invariant-loop-token l = record {
  lexemes : l.lexemes.items ≡ lexemes_of l.text (take l.token-index l.tokens);
  sound : All (IsSoundLexeme l.text) l.lexemes.items;
}
