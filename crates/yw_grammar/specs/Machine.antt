-- The parser as a function on lists of tokens: a stack of what is begun, and what is at hand.
use Rattle.std.specs.Prelude.{Bool, ℕ, Bool, false, List, [], ◌∷◌, ◌++◌, Option, Some, None, nat_le, if◌then◌else◌}
use Rattle.yw_grammar.specs.declared.symbol.Infix.{Infix}
use Rattle.yw_grammar.specs.declared.symbol.Infix.TheVariants.{Minus}
use Rattle.yw_grammar.specs.declared.symbol.Prefix.{Prefix}
use Rattle.yw_grammar.specs.declared.symbol.Prefix.TheVariants.{Not, Negate}
use Rattle.yw_grammar.specs.declared.symbol.Symbol.{Symbol}
use Rattle.yw_grammar.specs.declared.symbol.Symbol.TheVariants.{Atom, Operator, NotWord, Function, LeftParen, RightParen, LeftBracket, RightBracket, Comma}
use Rattle.yw_grammar.specs.declared.symbol.Leaf.{Leaf}
use Rattle.yw_grammar.specs.declared.symbol.Leaf.TheVariants.{Number, Text, Name, Truth}
use Rattle.yw_grammar.specs.declared.symbol.Literal.{Literal}
use Rattle.yw_grammar.specs.declared.symbol.Literal.TheVariants.{Plain, Negative, Quoted}
use Rattle.yw_grammar.specs.declared.symbol.Call.{Call}
use Rattle.yw_grammar.specs.declared.symbol.Lexeme.{Lexeme}
use Rattle.yw_grammar.specs.Grammar.{Form, leaf, list, call, two, one, item, level_of, left_of, right_of, before_of}

-- what is begun: an operand and its sign, a sign before an operand, an open bracket, an operand and its open bracket
pub data Begun : Type 0 where
  side : (op : Infix) (at : ℕ) (x : Form) → Begun
  before : (op : Prefix) (at : ℕ) → Begun
  group : Begun
  function : (f : Call) (at : ℕ) → Begun
  place : (at : ℕ) (x : Form) → Begun

-- An operand is wanted, or one is at hand; or the bracket of a call is wanted; or in a list a literal, the number
-- behind a minus, or what follows a literal. The stack has its top first.
pub data State : Type 0 where
  want : (stack : List Begun) → State
  have : (stack : List Begun) (e : Form) → State
  bracket : (f : Call) (at : ℕ) (stack : List Begun) → State
  literal : (at : ℕ) (items : List Literal) (stack : List Begun) → State
  digits : (at : ℕ) (items : List Literal) (stack : List Begun) → State
  listed : (at : ℕ) (items : List Literal) (stack : List Begun) → State

-- the loosest level that may go on from here
abbrev pub need : List Begun → ℕ
need [] = 0
need (side op at x ∷ stack) = right_of op
need (before op at ∷ stack) = before_of op
need (group ∷ stack) = 0
need (function f at ∷ stack) = 0
need (place at x ∷ stack) = 0

-- whether it ends where something of this level stands to its right
abbrev pub ends : ℕ → Begun → Bool
ends l (side op at x) = nat_le l (level_of op)
ends l (before op at) = nat_le l (before_of op)
ends l group = false
ends l (function f at) = false
ends l (place at x) = false

abbrev pub ends_top : ℕ → List Begun → Bool
ends_top l [] = false
ends_top l (b ∷ stack) = ends l b

-- what is begun, ended by an operand
abbrev pub joined : Begun → Form → Form
joined (side op at x) e = two op at x e
joined (before op at) e = one op at e
joined group e = e
joined (function f at) e = call f at e
joined (place at x) e = item at x e

abbrev pub fold_top : ℕ → List Begun → Form → State
fold_top l [] e = have [] e
fold_top l (b ∷ stack) e = if ends l b then fold_top l stack (joined b e) else have (b ∷ stack) e

abbrev pub begin_with : Prefix → ℕ → List Begun → Option State
begin_with op at stack = if nat_le (need stack) (before_of op) then Some (want (before op at ∷ stack)) else None

abbrev pub begin_sign : Infix → ℕ → List Begun → Option State
begin_sign Minus at stack = begin_with Negate at stack
begin_sign op at stack = None

-- a lexeme where an operand is wanted
abbrev pub begin : Symbol → ℕ → List Begun → Option State
begin (Atom x) at stack = Some (have stack (leaf at x))
begin (Operator op) at stack = begin_sign op at stack
begin NotWord at stack = begin_with Not at stack
begin (Function f) at stack = Some (bracket f at stack)
begin LeftParen at stack = Some (want (group ∷ stack))
begin RightParen at stack = None
begin LeftBracket at stack = Some (literal at [] stack)
begin RightBracket at stack = None
begin Comma at stack = None

abbrev pub sign_after : Infix → ℕ → State → Option State
sign_after op at (have stack e) = if nat_le (need stack) (level_of op) then Some (want (side op at e ∷ stack)) else None
sign_after op at s = None

abbrev pub close_group : List Begun → Form → Option State
close_group (group ∷ stack) e = Some (have stack e)
close_group (function f at ∷ stack) e = Some (have stack (call f at e))
close_group stack e = None

abbrev pub close_item : List Begun → Form → Option State
close_item (place at x ∷ stack) e = Some (have stack (item at x e))
close_item stack e = None

abbrev pub right_after : State → Option State
right_after (have stack e) = close_group stack e
right_after s = None

abbrev pub shut_after : State → Option State
shut_after (have stack e) = close_item stack e
shut_after s = None

-- a lexeme where an operand is at hand
abbrev pub go_on : Symbol → ℕ → List Begun → Form → Option State
go_on (Atom x) at stack e = None
go_on (Operator op) at stack e = sign_after op at (fold_top (left_of op) stack e)
go_on NotWord at stack e = None
go_on (Function f) at stack e = None
go_on LeftParen at stack e = None
go_on RightParen at stack e = right_after (fold_top 0 stack e)
go_on LeftBracket at stack e = Some (want (place at e ∷ stack))
go_on RightBracket at stack e = shut_after (fold_top 0 stack e)
go_on Comma at stack e = None

-- the bracket of a call
abbrev pub enter : Call → ℕ → List Begun → Symbol → Option State
enter f at stack LeftParen = Some (want (function f at ∷ stack))
enter f at stack sy = None

abbrev pub take_leaf : ℕ → List Literal → List Begun → Leaf → Option State
take_leaf at items stack (Number n) = Some (listed at (items ++ Plain n ∷ []) stack)
take_leaf at items stack (Text span) = Some (listed at (items ++ Quoted span ∷ []) stack)
take_leaf at items stack (Name span) = None
take_leaf at items stack (Truth b) = None

abbrev pub take_digits : ℕ → List Literal → List Begun → Leaf → Option State
take_digits at items stack (Number n) = Some (listed at (items ++ Negative n ∷ []) stack)
take_digits at items stack x = None

abbrev pub take_minus : ℕ → List Literal → List Begun → Infix → Option State
take_minus at items stack Minus = Some (digits at items stack)
take_minus at items stack op = None

abbrev pub in_literal : ℕ → List Literal → List Begun → Symbol → Option State
in_literal at items stack (Atom x) = take_leaf at items stack x
in_literal at items stack (Operator op) = take_minus at items stack op
in_literal at items stack sy = None

abbrev pub in_digits : ℕ → List Literal → List Begun → Symbol → Option State
in_digits at items stack (Atom x) = take_digits at items stack x
in_digits at items stack sy = None

abbrev pub in_listed : ℕ → List Literal → List Begun → Symbol → Option State
in_listed at items stack Comma = Some (literal at items stack)
in_listed at items stack RightBracket = Some (have stack (list at items))
in_listed at items stack sy = None

abbrev pub step : State → Lexeme → Option State
step (want stack) t = begin t.symbol t.at stack
step (have stack e) t = go_on t.symbol t.at stack e
step (bracket f at stack) t = enter f at stack t.symbol
step (literal at items stack) t = in_literal at items stack t.symbol
step (digits at items stack) t = in_digits at items stack t.symbol
step (listed at items stack) t = in_listed at items stack t.symbol

abbrev pub run_on : Option State → List Lexeme → Option State
run_on s [] = s
run_on None (t ∷ ts) = None
run_on (Some s) (t ∷ ts) = run_on (step s t) ts

abbrev pub whole : State → Option Form
whole (have [] e) = Some e
whole s = None

-- what a state at the end spells
abbrev pub finish : State → Option Form
finish (have stack e) = whole (fold_top 0 stack e)
finish s = None
