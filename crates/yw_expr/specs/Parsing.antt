-- What a text means in a scope: an expression, or the first of five kinds of fault.
use Rattle.std.specs.Prelude.{ℕ, ◌≡◌, List, length, Some, None, Result, Ok, Err}
use Rattle.yw_lex.specs.declared.token.Token.{Token}
use Rattle.yw_lex.specs.Tokens.{AreTokens, StopsAt}
use Rattle.yw_grammar.specs.declared.symbol.Lexeme.{Lexeme}
use Rattle.yw_grammar.specs.Grammar.{Form, AreAll, IsSyntaxFault}
use Rattle.yw_expr.specs.declared.fault.ExprFault.{ExprFault}
use Rattle.yw_expr.specs.declared.fault.ExprFault.TheVariants.{Lex, Deep, Syntax, UnknownName, Types, Memory}
use Rattle.yw_expr.specs.declared.scope.Binding.{Binding}
use Rattle.yw_expr.specs.Lexemes.{lexemes_of, IsDeep, unknown_place}
use Rattle.yw_expr.specs.Tree.{Tree}
use Rattle.yw_expr.specs.Typing.{tree_in, unsorted_place}

-- the lexemes are not too many nor too deep, and spell this form
pub record IsSpelled (ts : List Lexeme) (form : Form) : Type 0 where
  pub flat : IsDeep ts → ⊥
  pub spelled : AreAll ts form

-- and each name in them is in scope
pub record IsNamed (text : List ℕ) (scope : List Binding) (ts : List Lexeme) (form : Form) : Type 0 where
  pub spelled : IsSpelled ts form
  pub named : unknown_place text scope ts ≡ None

-- What a text with these lexemes means. A fault of a kind stands only where there is none of the kinds before it.
abbrev pub Reads : List ℕ → List Binding → List Lexeme → Result Tree ExprFault → Type 0
Reads text scope ts (Err (Lex at)) = ⊥
Reads text scope ts (Err Deep) = IsDeep ts
Reads text scope ts (Err (Syntax at)) = (IsDeep ts → ⊥) × IsSyntaxFault ts (length text) at
Reads text scope ts (Err (UnknownName at)) = (form : Form) × IsSpelled ts form × (unknown_place text scope ts ≡ Some at)
Reads text scope ts (Err (Types at)) = (form : Form) × IsNamed text scope ts form × (unsorted_place text scope form ≡ Some at)
Reads text scope ts (Err Memory) = ⊥
Reads text scope ts (Ok e) = (form : Form) × IsNamed text scope ts form × (unsorted_place text scope form ≡ None) × (tree_in text scope form ≡ Some e)

-- the same, unless memory ran out
abbrev pub ReadsOr : List ℕ → List Binding → List Lexeme → Result Tree ExprFault → Type 0
ReadsOr text scope ts (Err Memory) = Unit {0}
ReadsOr text scope ts r = Reads text scope ts r

-- this is the result, unless memory ran out
abbrev pub Gives : Result Tree ExprFault → Result Tree ExprFault → Type 0
Gives (Err Memory) r = Unit {0}
Gives result r = result ≡ r

-- What a text means in a scope. No token begins at a place where the tokens stop.
abbrev pub Means : List ℕ → List Binding → Result Tree ExprFault → Type 0
Means text scope (Err (Lex at)) = StopsAt 0 text at
Means text scope r = (tokens : List Token) × AreTokens 0 text tokens × Reads text scope (lexemes_of text tokens) r

-- the same, unless memory ran out
abbrev pub MeansOr : List ℕ → List Binding → Result Tree ExprFault → Type 0
MeansOr text scope (Err Memory) = Unit {0}
MeansOr text scope r = Means text scope r

-- the tree of a form, or the first place where it lacks a sort, unless memory ran out
abbrev pub IsTyped : List ℕ → List Binding → Form → Result Tree ExprFault → Type 0
IsTyped text scope form (Ok e) = (unsorted_place text scope form ≡ None) × (tree_in text scope form ≡ Some e)
IsTyped text scope form (Err (Types at)) = unsorted_place text scope form ≡ Some at
IsTyped text scope form (Err Memory) = Unit {0}
IsTyped text scope form (Err f) = ⊥
