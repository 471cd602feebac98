-- The tree that a node in memory is.
use Rattle.yw_expr.specs.declared.node.Node.{Node}
use Rattle.yw_expr.specs.declared.node.Node.TheVariants as nodes
use Rattle.yw_expr.specs.Tree.{Tree, constant, variable, function, unary, binary, element}

abbrev pub tree_of : Node → Tree
tree_of (nodes.Constant v) = constant v
tree_of (nodes.Variable k s) = variable k s
tree_of (nodes.Function' f p x) = function f (tree_of x)
tree_of (nodes.Unary' op p x) = unary op (tree_of x)
tree_of (nodes.Binary' op p x q y) = binary op (tree_of x) (tree_of y)
tree_of (nodes.Element' p x q k) = element (tree_of x) (tree_of k)
