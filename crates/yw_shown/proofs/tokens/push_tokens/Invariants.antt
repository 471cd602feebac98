use Rattle.std.proofs.Common.{◌≡◌, ◌++◌}
use Rattle.yw_shown.proofs.tokens.push_tokens.Given as goal
use Rattle.yw_shown.specs.Tokens.{rows_of}

-- those so far, and what is left
abbrev pub invariant-loop-row : goal.invariant-loop-row
invariant-loop-row l = l.rows ++ rows_of l.row-iterator ≡ l.initial.rows ++ rows_of l.initial.row-iterator
