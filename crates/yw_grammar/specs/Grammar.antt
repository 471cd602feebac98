-- Which lexemes spell which expression, and where the first fault in them is. The grammar is
--   or   = and { "or" and }          and  = not { "and" not }
--   not  = "not" not | cmp           cmp  = sum [ ("="|"!="|"<"|"<="|">"|">=") sum ]
--   sum  = prod { ("+"|"-") prod }   prod = un { ("*"|"/"|"%") un }
--   un   = "-" un | post             post = prim { "[" or "]" }
--   prim = number | text | "true" | "false" | name | "(" or ")"
--        | "len" "(" or ")" | "sum" "(" or ")" | "[" lit { "," lit } "]"
--   lit  = [ "-" ] number | text
-- Its nine lines are the levels 0 to 8 below. The grammar is our own.
use Rattle.std.specs.Prelude.{◌≡◌, ℕ, ◌≤◌, List, [], ◌∷◌, ◌++◌, ◌⊎◌}
use Rattle.yw_grammar.specs.declared.symbol.Infix.{Infix}
use Rattle.yw_grammar.specs.declared.symbol.Infix.TheVariants.{Or, And, Equal, NotEqual, Less, LessOrEqual, Greater, GreaterOrEqual, Plus, Minus, Times, Divide, Remainder}
use Rattle.yw_grammar.specs.declared.symbol.Prefix.{Prefix}
use Rattle.yw_grammar.specs.declared.symbol.Prefix.TheVariants.{Not, Negate}
use Rattle.yw_grammar.specs.declared.symbol.Span.{Span}
use Rattle.yw_grammar.specs.declared.symbol.Symbol.{Symbol}
use Rattle.yw_grammar.specs.declared.symbol.Symbol.TheVariants.{Atom, Operator, NotWord, Function, LeftParen, RightParen, LeftBracket, RightBracket, Comma}
use Rattle.yw_grammar.specs.declared.symbol.Leaf.{Leaf}
use Rattle.yw_grammar.specs.declared.symbol.Leaf.TheVariants.{Number, Text}
use Rattle.yw_grammar.specs.declared.symbol.Literal.{Literal}
use Rattle.yw_grammar.specs.declared.symbol.Literal.TheVariants.{Plain, Negative, Quoted}
use Rattle.yw_grammar.specs.declared.symbol.Call.{Call}
use Rattle.yw_grammar.specs.declared.symbol.Lexeme.{Lexeme}

-- An expression, without where it lies in memory. `at` is where its operator, word, bracket or only token starts.
pub data Form : Type 0 where
  leaf : (at : ℕ) (x : Leaf) → Form
  list : (at : ℕ) (items : List Literal) → Form
  call : (f : Call) (at : ℕ) (x : Form) → Form
  two : (op : Infix) (at : ℕ) (x y : Form) → Form
  one : (op : Prefix) (at : ℕ) (x : Form) → Form
  item : (at : ℕ) (x k : Form) → Form

-- The levels, from the loosest: 0 or, 1 and, 2 not, 3 comparisons, 4 sums, 5 products, 6 a minus before an operand,
-- 7 items, 8 names, literals, lists, calls and groups.
abbrev pub level_of : Infix → ℕ
level_of Or = 0
level_of And = 1
level_of Equal = 3
level_of NotEqual = 3
level_of Less = 3
level_of LessOrEqual = 3
level_of Greater = 3
level_of GreaterOrEqual = 3
level_of Plus = 4
level_of Minus = 4
level_of Times = 5
level_of Divide = 5
level_of Remainder = 5

-- The loosest level that may stand to the left: operators of one level are grouped from the left, and comparisons
-- aren't chained.
abbrev pub left_of : Infix → ℕ
left_of Or = 0
left_of And = 1
left_of Equal = 4
left_of NotEqual = 4
left_of Less = 4
left_of LessOrEqual = 4
left_of Greater = 4
left_of GreaterOrEqual = 4
left_of Plus = 4
left_of Minus = 4
left_of Times = 5
left_of Divide = 5
left_of Remainder = 5

-- the loosest level that may stand to the right
abbrev pub right_of : Infix → ℕ
right_of Or = 1
right_of And = 2
right_of Equal = 4
right_of NotEqual = 4
right_of Less = 4
right_of LessOrEqual = 4
right_of Greater = 4
right_of GreaterOrEqual = 4
right_of Plus = 5
right_of Minus = 5
right_of Times = 6
right_of Divide = 6
right_of Remainder = 6

-- the level of an operator before an operand, which is the loosest level of the operand too
abbrev pub before_of : Prefix → ℕ
before_of Not = 2
before_of Negate = 6

abbrev pub symbol_of : Prefix → Symbol
symbol_of Not = NotWord
symbol_of Negate = Operator Minus

abbrev pub lexeme : Symbol → ℕ → Lexeme
lexeme s p = record { symbol = s; at = p }

-- these lexemes are this literal of a list
pub data IsLiteral : List Lexeme → Literal → Type 0 where
  plain : (n at : ℕ) → IsLiteral (lexeme (Atom (Number n)) at ∷ []) (Plain n)
  negative : (n p at : ℕ) → IsLiteral (lexeme (Operator Minus) p ∷ lexeme (Atom (Number n)) at ∷ []) (Negative n)
  a_text : (span : Span) (at : ℕ) → IsLiteral (lexeme (Atom (Text span)) at ∷ []) (Quoted span)

-- these lexemes are these literals, one or more, with a comma between two
pub data AreLiterals : List Lexeme → List Literal → Type 0 where
  last : (xs : List Lexeme) (x : Literal) → IsLiteral xs x → AreLiterals xs (x ∷ [])
  then : (p : ℕ) (xs ys : List Lexeme) (x : Literal) (rest : List Literal) → IsLiteral xs x → AreLiterals ys rest →
      AreLiterals (xs ++ lexeme Comma p ∷ ys) (x ∷ rest)

-- These lexemes spell this expression at this level.
pub data Spells : ℕ → List Lexeme → Form → Type 0 where
  -- what a tighter level has, a looser one has too
  looser : {low high : ℕ} {ts : List Lexeme} {e : Form} → low ≤ high → Spells high ts e → Spells low ts e
  a_leaf : (x : Leaf) (at : ℕ) → Spells 8 (lexeme (Atom x) at ∷ []) (leaf at x)
  a_list : (p q : ℕ) (ts : List Lexeme) (items : List Literal) → AreLiterals ts items →
      Spells 8 (lexeme LeftBracket p ∷ ts ++ lexeme RightBracket q ∷ []) (list p items)
  a_call : (f : Call) (at p q : ℕ) (ts : List Lexeme) {e : Form} → Spells 0 ts e →
      Spells 8 (lexeme (Function f) at ∷ lexeme LeftParen p ∷ ts ++ lexeme RightParen q ∷ []) (call f at e)
  a_group : (p q : ℕ) (ts : List Lexeme) {e : Form} → Spells 0 ts e →
      Spells 8 (lexeme LeftParen p ∷ ts ++ lexeme RightParen q ∷ []) e
  an_item : (p q : ℕ) (xs ks : List Lexeme) {x k : Form} → Spells 7 xs x → Spells 0 ks k →
      Spells 7 (xs ++ lexeme LeftBracket p ∷ ks ++ lexeme RightBracket q ∷ []) (item p x k)
  with_one : (op : Prefix) (at : ℕ) {xs : List Lexeme} {x : Form} → Spells (before_of op) xs x →
      Spells (before_of op) (lexeme (symbol_of op) at ∷ xs) (one op at x)
  with_two : (op : Infix) (at : ℕ) (xs ys : List Lexeme) {x y : Form} → Spells (left_of op) xs x → Spells (right_of op) ys y →
      Spells (level_of op) (xs ++ lexeme (Operator op) at ∷ ys) (two op at x y)

-- these lexemes are the whole expression
abbrev pub AreAll : List Lexeme → Form → Type 0
AreAll ts e = Spells 0 ts e

-- with some more lexemes these are an expression
abbrev pub Begins : List Lexeme → Type 0
Begins ts = (more : List Lexeme) × (e : Form) × AreAll (ts ++ more) e

-- this is the start of the first lexeme that with those before it begins no expression
abbrev pub StopsAt : List Lexeme → ℕ → Type 0
StopsAt ts at = (front : List Lexeme) × (t : Lexeme) × (back : List Lexeme) × (ts ≡ front ++ t ∷ back) × Begins front × (Begins (front ++ t ∷ []) → ⊥) × (at ≡ t.at)

-- all of them begin an expression, and are none
abbrev pub EndsEarly : List Lexeme → Type 0
EndsEarly ts = Begins ts × ((e : Form) → AreAll ts e → ⊥)

-- the first fault in the order of the lexemes is at this place, where `end` is the place behind the last of them
abbrev pub IsSyntaxFault : List Lexeme → ℕ → ℕ → Type 0
IsSyntaxFault ts end at = StopsAt ts at ⊎ (EndsEarly ts × (at ≡ end))
