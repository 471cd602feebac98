use Rattle.std.proofs.Common.{sym, Err}
use Rattle.yw_grammar.specs.SyntaxTree.{form_of}
use Rattle.yw_expr.specs.declared.fault.ExprFault.TheVariants.{UnknownName}
use Rattle.yw_expr.proofs.Once.{only, typed_reads, syntax_fault}
use Rattle.yw_expr.proofs.SmallConstants.{reads_small}
use Rattle.yw_expr.proofs.Sound.{sound}
use Rattle.yw_expr.proofs.parsing.read.Goals as goal

pub returns-in_err-tree-clause-reads : goal.returns-in_err-tree-clause-reads
returns-in_err-tree-clause-reads c =
    syntax_fault c.args.text.now c.args.scope.now c.args.lexemes.now (λ d. let t = c.is_deep.ensures.1 d in cc) c.in_err-tree.field-0.0 c.in_err-tree.ensures.reads c.from_residual.result c.from_residual.ensures.1

pub returns-in_err-tree-clause-only : goal.returns-in_err-tree-clause-only
returns-in_err-tree-clause-only c = only c.args.text.now c.args.scope.now c.args.lexemes.now c.from_residual.result (returns-in_err-tree-clause-reads c)

pub returns-in-Some-clause-only : goal.returns-in-Some-clause-only
returns-in-Some-clause-only c =
    only c.args.text.now c.args.scope.now c.args.lexemes.now (Err (UnknownName c.in-Some.at))
    (form_of c.in_ok-tree.tree, record { flat = λ d. let t = c.is_deep.ensures.1 d in cc; spelled = c.in_ok-tree.ensures.reads }, sym c.in-Some.ensures)

pub returns-clause-reads : goal.returns-clause-reads
returns-clause-reads c =
    typed_reads c.args.text.now c.args.scope.now c.args.lexemes.now (form_of c.in_ok-tree.tree)
    (record { spelled = record { flat = λ d. let t = c.is_deep.ensures.1 d in cc; spelled = c.in_ok-tree.ensures.reads }; named = sym c.in-None.ensures })
    c.expr_of.result c.expr_of.ensures

pub returns-clause-only : goal.returns-clause-only
returns-clause-only c = only c.args.text.now c.args.scope.now c.args.lexemes.now c.expr_of.result (returns-clause-reads c)

pub expr_of-requires : goal.expr_of-requires
expr_of-requires c = sound c.args.text.now c.args.lexemes.now (form_of c.in_ok-tree.tree) c.in_ok-tree.ensures.reads c.requires

pub returns-clause-small : goal.returns-clause-small
returns-clause-small c = reads_small c.args.text.now c.args.scope.now c.args.lexemes.now c.requires c.expr_of.result (returns-clause-reads c)
