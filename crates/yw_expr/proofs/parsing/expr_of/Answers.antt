use Rattle.yw_grammar.specs.SyntaxTree.{form_of}
use Rattle.yw_expr.specs.Node.{tree_of}
use Rattle.yw_expr.proofs.Found.{typed_fault, typed_sort, typed_tree}
use Rattle.yw_expr.proofs.parsing.expr_of.Goals as goal

pub new-requires : goal.new-requires
new-requires c = typed_sort c.args.text.now c.args.scope.now (form_of c.args.tree.now) (tree_of c.in-Ok.typed.node) c.in-Ok.typed.sort c.in-Ok.ensures

pub returns-in-Ok : goal.returns-in-Ok
returns-in-Ok c = typed_tree c.args.text.now c.args.scope.now (form_of c.args.tree.now) (tree_of c.in-Ok.typed.node) c.new.result c.in-Ok.typed.sort c.in-Ok.ensures c.new.ensures

pub returns-in-Err : goal.returns-in-Err
returns-in-Err c = typed_fault c.args.text.now c.args.scope.now (form_of c.args.tree.now) c.in-Err.fault c.in-Err.ensures
