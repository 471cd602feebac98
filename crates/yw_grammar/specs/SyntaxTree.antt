-- The expression that a tree in memory is.
use Rattle.yw_grammar.specs.declared.tree.SyntaxTree.{SyntaxTree}
use Rattle.yw_grammar.specs.declared.tree.SyntaxTree.TheVariants as trees
use Rattle.yw_grammar.specs.Grammar.{Form, leaf, list, call, two, one, item}

abbrev pub form_of : SyntaxTree → Form
form_of (trees.Leaf at x) = leaf at x
form_of (trees.List at v) = list at v.items
form_of (trees.Call' f at p x) = call f at (form_of x)
form_of (trees.Two' op at p x q y) = two op at (form_of x) (form_of y)
form_of (trees.One' op at p x) = one op at (form_of x)
form_of (trees.Item' at p x q k) = item at (form_of x) (form_of k)
