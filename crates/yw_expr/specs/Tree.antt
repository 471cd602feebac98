-- An expression whose names are looked up: what a text means in a scope.
use Rattle.std.specs.Prelude.{ℕ, ◌≡◌, ◌⊎◌, List, [], ◌∷◌, ◌++◌, refl}
use Rattle.std.specs.Coded.{Coded, code_by, coded_list, coded_ℕ, coded×, coded⊎}
use Rattle.std.proofs.Common.{◌∙◌, ap, inl, inr}
use Rattle.yw_base.specs.declared.value.Sort.{Sort}
use Rattle.yw_base.specs.declared.value.Sort.TheVariants as sorts
use Rattle.yw_base.specs.declared.value.Value.{Value}
use Rattle.yw_base.specs.contracts.value.Sort.{the_row as sort_row}
use Rattle.yw_base.specs.contracts.value.Value.{the_row as value_row}
use Rattle.yw_grammar.specs.declared.symbol.Call.{Call}
use Rattle.yw_grammar.specs.declared.symbol.Infix.{Infix}
use Rattle.yw_grammar.specs.declared.symbol.Prefix.{Prefix}
use Rattle.yw_grammar.specs.contracts.symbol.Call.{the_row as call_row}
use Rattle.yw_grammar.specs.contracts.symbol.Infix.{the_row as infix_row}
use Rattle.yw_grammar.specs.contracts.symbol.Prefix.{the_row as prefix_row}

-- A variable has its place in the scope and its sort. An element has a list and a place in it.
pub data Tree : Type 0 where
  constant : (v : Value) → Tree
  variable : (k : ℕ) (s : Sort) → Tree
  function : (f : Call) (x : Tree) → Tree
  unary : (op : Prefix) (x : Tree) → Tree
  binary : (op : Infix) (x y : Tree) → Tree
  element : (x k : Tree) → Tree

-- ---- a tree is stored as its nodes in postfix order
pub data Piece : Type 0 where
  a_constant : (v : Value) → Piece
  a_variable : (k : ℕ) (s : Sort) → Piece
  a_function : (f : Call) → Piece
  a_unary : (op : Prefix) → Piece
  a_binary : (op : Infix) → Piece
  an_element : Piece

abbrev Parts : Type 0
Parts = Value ⊎ ((ℕ × Sort) ⊎ (Call ⊎ (Prefix ⊎ (Infix ⊎ ℕ))))

abbrev parts_of : Piece → Parts
parts_of (a_constant v) = inl v
parts_of (a_variable k s) = inr (inl (k, s))
parts_of (a_function f) = inr (inr (inl f))
parts_of (a_unary op) = inr (inr (inr (inl op)))
parts_of (a_binary op) = inr (inr (inr (inr (inl op))))
parts_of an_element = inr (inr (inr (inr (inr 0))))

abbrev piece_of : Parts → Piece
piece_of (inl v) = a_constant v
piece_of (inr (inl (k, s))) = a_variable k s
piece_of (inr (inr (inl f))) = a_function f
piece_of (inr (inr (inr (inl op)))) = a_unary op
piece_of (inr (inr (inr (inr (inl op))))) = a_binary op
piece_of (inr (inr (inr (inr (inr n))))) = an_element

pub piece_of-parts_of : (p : Piece) → piece_of (parts_of p) ≡ p
piece_of-parts_of (a_constant v) = refl
piece_of-parts_of (a_variable k s) = refl
piece_of-parts_of (a_function f) = refl
piece_of-parts_of (a_unary op) = refl
piece_of-parts_of (a_binary op) = refl
piece_of-parts_of an_element = refl

abbrev piece_code : Coded Piece
piece_code =
    code_by Parts (coded⊎ value_row.coded (coded⊎ (coded× coded_ℕ sort_row.coded) (coded⊎ call_row.coded (coded⊎ prefix_row.coded (coded⊎ infix_row.coded coded_ℕ))))) parts_of piece_of piece_of-parts_of

abbrev pieces_of : Tree → List Piece
pieces_of (constant v) = a_constant v ∷ []
pieces_of (variable k s) = a_variable k s ∷ []
pieces_of (function f x) = pieces_of x ++ a_function f ∷ []
pieces_of (unary op x) = pieces_of x ++ a_unary op ∷ []
pieces_of (binary op x y) = pieces_of x ++ (pieces_of y ++ a_binary op ∷ [])
pieces_of (element x k) = pieces_of x ++ (pieces_of k ++ an_element ∷ [])

abbrev with_one : (Tree → Tree) → List Tree → List Tree
with_one f [] = []
with_one f (x ∷ xs) = f x ∷ xs

abbrev with_two : (Tree → Tree → Tree) → List Tree → List Tree
with_two f [] = []
with_two f (y ∷ []) = []
with_two f (y ∷ x ∷ xs) = f x y ∷ xs

abbrev stacked : Piece → List Tree → List Tree
stacked (a_constant v) xs = constant v ∷ xs
stacked (a_variable k s) xs = variable k s ∷ xs
stacked (a_function f) xs = with_one (function f) xs
stacked (a_unary op) xs = with_one (unary op) xs
stacked (a_binary op) xs = with_two (binary op) xs
stacked an_element xs = with_two element xs

abbrev trees_of : List Piece → List Tree → List Tree
trees_of [] xs = xs
trees_of (p ∷ ps) xs = trees_of ps (stacked p xs)

abbrev first_tree : List Tree → Tree
first_tree [] = variable 0 sorts.Bool
first_tree (x ∷ xs) = x

abbrev tree_of_pieces : List Piece → Tree
tree_of_pieces ps = first_tree (trees_of ps [])

trees_of-append : (ps qs : List Piece) (xs : List Tree) → trees_of (ps ++ qs) xs ≡ trees_of qs (trees_of ps xs)
trees_of-append [] qs xs = refl
trees_of-append (p ∷ ps) qs xs = trees_of-append ps qs (stacked p xs)

trees_of-pieces_of : (t : Tree) (xs : List Tree) → trees_of (pieces_of t) xs ≡ t ∷ xs
trees_of-pieces_of (constant v) xs = refl
trees_of-pieces_of (variable k s) xs = refl
trees_of-pieces_of (function f x) xs = trees_of-append (pieces_of x) _ xs ∙ ap (trees_of (a_function f ∷ [])) (trees_of-pieces_of x xs)
trees_of-pieces_of (unary op x) xs = trees_of-append (pieces_of x) _ xs ∙ ap (trees_of (a_unary op ∷ [])) (trees_of-pieces_of x xs)
trees_of-pieces_of (binary op x y) xs =
    trees_of-append (pieces_of x) _ xs
    ∙ ap (trees_of (pieces_of y ++ a_binary op ∷ [])) (trees_of-pieces_of x xs)
    ∙ trees_of-append (pieces_of y) _ (x ∷ xs)
    ∙ ap (trees_of (a_binary op ∷ [])) (trees_of-pieces_of y (x ∷ xs))
trees_of-pieces_of (element x k) xs =
    trees_of-append (pieces_of x) _ xs
    ∙ ap (trees_of (pieces_of k ++ an_element ∷ [])) (trees_of-pieces_of x xs)
    ∙ trees_of-append (pieces_of k) _ (x ∷ xs)
    ∙ ap (trees_of (an_element ∷ [])) (trees_of-pieces_of k (x ∷ xs))

pub tree_of_pieces-pieces_of : (t : Tree) → tree_of_pieces (pieces_of t) ≡ t
tree_of_pieces-pieces_of t = ap first_tree (trees_of-pieces_of t [])

abbrev pub tree_code : Coded Tree
tree_code = code_by (List Piece) (coded_list piece_code) pieces_of tree_of_pieces tree_of_pieces-pieces_of
