use Rattle.std.proofs.Common.{◌≡◌, Some, [], take}
use Rattle.yw_grammar.specs.Machine.{want, run_on}
use Rattle.yw_grammar.specs.Tie.{state_of}
use Rattle.yw_grammar.proofs.parser.run.Given as goal

-- so far the machine runs on
abbrev pub invariant-loop-lexeme : goal.invariant-loop-lexeme
invariant-loop-lexeme l = run_on (Some (want [])) (take l.lexeme-index l.lexemes) ≡ Some (state_of l.stack.items l.hand)
