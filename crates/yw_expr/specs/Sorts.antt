-- The sort of an expression, by the table of forms.
use Rattle.std.specs.Prelude.{Option, Some, None, option_and_then, ◌≡◌, List, slice_get}
use Rattle.yw_base.specs.declared.value.Sort.{Sort}
use Rattle.yw_base.specs.declared.value.Sort.TheVariants.{Bool, Int, Text, Ints, Texts}
use Rattle.yw_base.specs.Values.{sort_of}
use Rattle.yw_grammar.specs.declared.symbol.Call.{Call}
use Rattle.yw_grammar.specs.declared.symbol.Call.TheVariants.{Len, Sum}
use Rattle.yw_grammar.specs.declared.symbol.Infix.{Infix}
use Rattle.yw_grammar.specs.declared.symbol.Infix.TheVariants.{Or, And, Equal, NotEqual, Plus, Minus, Times, Divide, Remainder}
use Rattle.yw_grammar.specs.declared.symbol.Prefix.{Prefix}
use Rattle.yw_grammar.specs.declared.symbol.Prefix.TheVariants.{Not, Negate}
use Rattle.yw_expr.specs.Tree.{Tree, constant, variable, function, unary, binary, element}

-- the result, where the operand is of a sort that the function takes
abbrev pub function_sort : Call → Sort → Option Sort
function_sort Len Ints = Some Int
function_sort Len Texts = Some Int
function_sort Sum Ints = Some Int
function_sort f a = None

abbrev pub unary_sort : Prefix → Sort → Option Sort
unary_sort Not Bool = Some Bool
unary_sort Negate Int = Some Int
unary_sort op a = None

abbrev pub ints_sort : Infix → Option Sort
ints_sort Or = None
ints_sort And = None
ints_sort Plus = Some Int
ints_sort Minus = Some Int
ints_sort Times = Some Int
ints_sort Divide = Some Int
ints_sort Remainder = Some Int
ints_sort op = Some Bool

abbrev pub bools_sort : Infix → Option Sort
bools_sort Or = Some Bool
bools_sort And = Some Bool
bools_sort Equal = Some Bool
bools_sort NotEqual = Some Bool
bools_sort op = None

abbrev pub texts_sort : Infix → Option Sort
texts_sort Equal = Some Bool
texts_sort NotEqual = Some Bool
texts_sort op = None

abbrev pub binary_sort : Infix → Sort → Sort → Option Sort
binary_sort op Int Int = ints_sort op
binary_sort op Bool Bool = bools_sort op
binary_sort op Text Text = texts_sort op
binary_sort op a b = None

abbrev pub element_sort : Sort → Sort → Option Sort
element_sort Ints Int = Some Int
element_sort Texts Int = Some Text
element_sort a k = None

-- the sort, where the table has one
abbrev pub tree_sort : Tree → Option Sort
tree_sort (constant v) = Some (sort_of v)
tree_sort (variable k s) = Some s
tree_sort (function f x) = option_and_then (function_sort f) (tree_sort x)
tree_sort (unary op x) = option_and_then (unary_sort op) (tree_sort x)
tree_sort (binary op x y) = option_and_then (λ a. option_and_then (binary_sort op a) (tree_sort y)) (tree_sort x)
tree_sort (element x k) = option_and_then (λ a. option_and_then (element_sort a) (tree_sort k)) (tree_sort x)

-- each variable has its place and its sort in a row of these sorts
abbrev pub IsIn : List Sort → Tree → Type 0
IsIn sorts (constant v) = Unit {0}
IsIn sorts (variable k s) = slice_get sorts k ≡ Some s
IsIn sorts (function f x) = IsIn sorts x
IsIn sorts (unary op x) = IsIn sorts x
IsIn sorts (binary op x y) = IsIn sorts x × IsIn sorts y
IsIn sorts (element x k) = IsIn sorts x × IsIn sorts k
