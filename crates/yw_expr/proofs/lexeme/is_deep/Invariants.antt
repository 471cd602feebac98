use Rattle.std.proofs.Common.{◌≡◌, ℕ, ◌≤◌, take}
use Rattle.std.specs.List.{count_by}
use Rattle.yw_expr.specs.Lexemes.{is_opening, is_closing, IsDeepAt}
use Rattle.yw_expr.proofs.lexeme.is_deep.Given as goal

abbrev pub invariant-loop-lexeme : goal.invariant-loop-lexeme
invariant-loop-lexeme l = record {
  opened : l.opened ≡ count_by is_opening (take l.lexeme-index l.lexemes);
  closed : l.closed ≡ count_by is_closing (take l.lexeme-index l.lexemes);
  flat : (k : ℕ) → k ≤ l.lexeme-index → IsDeepAt l.lexemes k → ⊥;
}
