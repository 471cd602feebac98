use Rattle.std.proofs.Common.{◌≡◌, vec_len}
use Rattle.yw_grammar.specs.Machine.{fold_top}
use Rattle.yw_grammar.specs.SyntaxTree.{form_of}
use Rattle.yw_grammar.specs.Tie.{tops}
use Rattle.yw_grammar.proofs.stack.fold_top.Given as goal

abbrev pub invariant-ends : goal.invariant-ends
invariant-ends l = fold_top l.level (tops l.fn.stack.items) (form_of l.fn.hand) ≡ fold_top l.level (tops l.stack.items) (form_of l.hand)

abbrev pub decreases-ends : goal.decreases-ends
decreases-ends l = vec_len l.stack
