-- The faults of the layers below as faults of an expression.
use Rattle.yw_grammar.specs.declared.tree.SyntaxFault.{SyntaxFault}
use Rattle.yw_grammar.specs.declared.tree.SyntaxFault.TheVariants as syntax_faults
use Rattle.yw_lex.specs.declared.token.LexFault.{LexFault}
use Rattle.yw_lex.specs.declared.token.LexFault.TheVariants as lex_faults
use Rattle.yw_expr.specs.declared.fault.ExprFault.{ExprFault}
use Rattle.yw_expr.specs.declared.fault.ExprFault.TheVariants.{Lex, Syntax, Memory}

abbrev pub of_syntax : SyntaxFault → ExprFault
of_syntax (syntax_faults.At at) = Syntax at
of_syntax syntax_faults.Memory = Memory

abbrev pub of_lex : LexFault → ExprFault
of_lex (lex_faults.At at) = Lex at
of_lex lex_faults.Memory = Memory
