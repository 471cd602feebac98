-- What a spelled expression means in a scope, and the first of its forms whose operands the table of sorts lacks.
use Rattle.std.specs.Prelude.{◌+◌, ℕ, ◌≤◌, ◌<◌, ◌^◌, ℤ, pos, neg_ℤ, Bool, true, false, List, [], ◌∷◌, ◌++◌, map, find, slice_range, Option, Some, None, is_none, option_and_then, option_map, if◌then◌else◌}
use Rattle.std.specs.List.{list_all, All}
use Rattle.std.specs.Str.{IsCharBoundary}
use Rattle.yw_base.specs.Values.{most_text_bytes}
use Rattle.yw_base.specs.declared.value.Value.TheVariants as values
use Rattle.yw_base.specs.declared.value.Sort.{Sort}
use Rattle.yw_grammar.specs.declared.symbol.Leaf.{Leaf}
use Rattle.yw_grammar.specs.declared.symbol.Leaf.TheVariants.{Number, Text, Name, Truth}
use Rattle.yw_grammar.specs.declared.symbol.Literal.{Literal}
use Rattle.yw_grammar.specs.declared.symbol.Literal.TheVariants.{Plain, Negative, Quoted}
use Rattle.yw_grammar.specs.declared.symbol.Span.{Span}
use Rattle.yw_grammar.specs.Grammar.{Form, leaf, list, call, two, one, item}
use Rattle.yw_expr.specs.declared.scope.Binding.{Binding}
use Rattle.yw_expr.specs.Scope.{variable_in}
use Rattle.yw_expr.specs.Sorts.{tree_sort}
use Rattle.yw_expr.specs.Tree.{Tree, constant, function, unary, binary, element}

-- the bytes of a part of a text
abbrev pub part : List ℕ → Span → List ℕ
part text span = slice_range text span.from span.to

abbrev pub leaf_tree : List ℕ → List Binding → Leaf → Option Tree
leaf_tree text scope (Number n) = Some (constant (values.Int (pos n)))
leaf_tree text scope (Text span) = Some (constant (values.Text (part text span)))
leaf_tree text scope (Name span) = variable_in scope (part text span)
leaf_tree text scope (Truth b) = Some (constant (values.Bool b))

abbrev pub is_number : Literal → Bool
is_number (Plain n) = true
is_number (Negative n) = true
is_number (Quoted span) = false

abbrev pub is_text : Literal → Bool
is_text (Plain n) = false
is_text (Negative n) = false
is_text (Quoted span) = true

-- of a literal that is a number; the last line is for none
abbrev pub number_of : Literal → ℤ
number_of (Plain n) = pos n
number_of (Negative n) = neg_ℤ (pos n)
number_of (Quoted span) = pos 0

-- of a literal that is a text; the first two lines are for none
abbrev pub text_of : List ℕ → Literal → List ℕ
text_of text (Plain n) = []
text_of text (Negative n) = []
text_of text (Quoted span) = part text span

-- all numbers, or all texts
abbrev pub list_tree : List ℕ → List Literal → Option Tree
list_tree text items =
    if list_all is_number items then Some (constant (values.Ints (map number_of items)))
    else (if list_all is_text items then Some (constant (values.Texts (map (text_of text) items))) else None)

-- the tree of a form, where its names are in scope and its lists are of one sort
abbrev pub tree_in : List ℕ → List Binding → Form → Option Tree
tree_in text scope (leaf at x) = leaf_tree text scope x
tree_in text scope (list at items) = list_tree text items
tree_in text scope (call f at x) = option_map (function f) (tree_in text scope x)
tree_in text scope (one op at x) = option_map (unary op) (tree_in text scope x)
tree_in text scope (two op at x y) = option_and_then (λ a. option_map (binary op a) (tree_in text scope y)) (tree_in text scope x)
tree_in text scope (item at x k) = option_and_then (λ a. option_map (element a) (tree_in text scope k)) (tree_in text scope x)

abbrev pub sort_in : List ℕ → List Binding → Form → Option Sort
sort_in text scope e = option_and_then tree_sort (tree_in text scope e)

-- where the operator, word, bracket or only token of a form starts
abbrev pub place_of : Form → ℕ
place_of (leaf at x) = at
place_of (list at items) = at
place_of (call f at x) = at
place_of (one op at x) = at
place_of (two op at x y) = at
place_of (item at x k) = at

-- the form and its parts in post-order
abbrev pub post : Form → List Form
post (leaf at x) = leaf at x ∷ []
post (list at items) = list at items ∷ []
post (call f at x) = post x ++ call f at x ∷ []
post (one op at x) = post x ++ one op at x ∷ []
post (two op at x y) = post x ++ (post y ++ two op at x y ∷ [])
post (item at x k) = post x ++ (post k ++ item at x k ∷ [])

abbrev pub lacks_sort : List ℕ → List Binding → Form → Bool
lacks_sort text scope e = is_none (sort_in text scope e)

-- The place of the first form in post-order that has no sort. All before it have one, so its operands do, and the
-- table lacks them.
abbrev pub unsorted_place : List ℕ → List Binding → Form → Option ℕ
unsorted_place text scope e = option_map place_of (find (lacks_sort text scope) (post e))

-- ---- what lexemes of a text have by themselves: numbers are i64s, and parts are parts of the text
pub record IsTextPart (text : List ℕ) (span : Span) : Type 0 where
  pub forward : span.from ≤ span.to
  pub start : IsCharBoundary text span.from
  pub end : IsCharBoundary text span.to
  pub short : span.to ≤ span.from + most_text_bytes

abbrev pub IsSoundLeaf : List ℕ → Leaf → Type 0
IsSoundLeaf text (Number n) = n < 2 ^ 63
IsSoundLeaf text (Text span) = IsTextPart text span
IsSoundLeaf text (Name span) = IsTextPart text span
IsSoundLeaf text (Truth b) = Unit {0}

abbrev pub IsSoundNumber : Literal → Type 0
IsSoundNumber (Plain n) = n < 2 ^ 63
IsSoundNumber (Negative n) = n < 2 ^ 63
IsSoundNumber (Quoted span) = Unit {0}

abbrev pub IsSoundText : List ℕ → Literal → Type 0
IsSoundText text (Plain n) = Unit {0}
IsSoundText text (Negative n) = Unit {0}
IsSoundText text (Quoted span) = IsTextPart text span

abbrev pub IsSound : List ℕ → Form → Type 0
IsSound text (leaf at x) = IsSoundLeaf text x
IsSound text (list at items) = All IsSoundNumber items × All (IsSoundText text) items
IsSound text (call f at x) = IsSound text x
IsSound text (one op at x) = IsSound text x
IsSound text (two op at x y) = IsSound text x × IsSound text y
IsSound text (item at x k) = IsSound text x × IsSound text k
