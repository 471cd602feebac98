-- What the tokens of a text are to the grammar, and the faults that are seen in them alone.
use Rattle.std.specs.Prelude.{ℕ, ◌+◌, ◌-◌, ◌^◌, ◌<◌, ◌≤◌, ◌⊎◌, Bool, true, false, List, length, take, map, find, codes, count_by, slice_range, Option, is_none, option_map, if◌then◌else◌}
use Rattle.std.specs.Str.{bytes_eq}
use Rattle.yw_lex.specs.declared.token.Token.{Token}
use Rattle.yw_lex.specs.declared.token.Word.{Word}
use Rattle.yw_lex.specs.declared.token.Word.TheVariants as words
use Rattle.yw_lex.specs.Spelling.{number_of}
use Rattle.yw_grammar.specs.declared.symbol.Call.TheVariants.{Len, Sum}
use Rattle.yw_grammar.specs.declared.symbol.Infix.TheVariants.{Or, And, Equal, NotEqual, Less, LessOrEqual, Greater, GreaterOrEqual, Plus, Minus, Times, Divide, Remainder}
use Rattle.yw_grammar.specs.declared.symbol.Leaf.{Leaf}
use Rattle.yw_grammar.specs.declared.symbol.Leaf.TheVariants.{Number, Text, Name, Truth}
use Rattle.yw_grammar.specs.declared.symbol.Lexeme.{Lexeme}
use Rattle.yw_grammar.specs.declared.symbol.Span.{Span}
use Rattle.yw_grammar.specs.declared.symbol.Symbol.{Symbol}
use Rattle.yw_grammar.specs.declared.symbol.Symbol.TheVariants.{Atom, Operator, NotWord, Function, LeftParen, RightParen, LeftBracket, RightBracket, Comma}
use Rattle.yw_expr.specs.declared.scope.Binding.{Binding}
use Rattle.yw_expr.specs.Scope.{place_in}
use Rattle.yw_expr.specs.Typing.{part, IsTextPart, IsSoundLeaf}

abbrev pub span : ℕ → ℕ → Span
span from to = record { from = from; to = to }

-- the last of the words is `sum`
abbrev pub word_symbol : List ℕ → Symbol
word_symbol bytes =
    if bytes_eq bytes (codes "and") then Operator And
    else (if bytes_eq bytes (codes "or") then Operator Or
    else (if bytes_eq bytes (codes "not") then NotWord
    else (if bytes_eq bytes (codes "true") then Atom (Truth true)
    else (if bytes_eq bytes (codes "false") then Atom (Truth false)
    else (if bytes_eq bytes (codes "len") then Function Len
    else Function Sum)))))

-- the last of the signs is the comma
abbrev pub sign_symbol : List ℕ → Symbol
sign_symbol bytes =
    if bytes_eq bytes (codes "=") then Operator Equal
    else (if bytes_eq bytes (codes "!=") then Operator NotEqual
    else (if bytes_eq bytes (codes "<") then Operator Less
    else (if bytes_eq bytes (codes "<=") then Operator LessOrEqual
    else (if bytes_eq bytes (codes ">") then Operator Greater
    else (if bytes_eq bytes (codes ">=") then Operator GreaterOrEqual
    else (if bytes_eq bytes (codes "+") then Operator Plus
    else (if bytes_eq bytes (codes "-") then Operator Minus
    else (if bytes_eq bytes (codes "*") then Operator Times
    else (if bytes_eq bytes (codes "/") then Operator Divide
    else (if bytes_eq bytes (codes "%") then Operator Remainder
    else (if bytes_eq bytes (codes "(") then LeftParen
    else (if bytes_eq bytes (codes ")") then RightParen
    else (if bytes_eq bytes (codes "[") then LeftBracket
    else (if bytes_eq bytes (codes "]") then RightBracket
    else Comma))))))))))))))

-- a text goes without its quotes
abbrev pub symbol_as : Word → List ℕ → ℕ → ℕ → Symbol
symbol_as words.Number bytes from to = Atom (Number (number_of bytes))
symbol_as words.Text bytes from to = Atom (Text (span (from + 1) (to - 1)))
symbol_as words.Name bytes from to = Atom (Name (span from to))
symbol_as words.Reserved bytes from to = word_symbol bytes
symbol_as words.Sign bytes from to = sign_symbol bytes

abbrev pub lexeme_of : List ℕ → Token → Lexeme
lexeme_of text t = record { symbol = symbol_as t.word (slice_range text t.from t.to) t.from t.to; at = t.from }

abbrev pub lexemes_of : List ℕ → List Token → List Lexeme
lexemes_of text tokens = map (lexeme_of text) tokens

-- what a token of a text has by itself, by its kind
abbrev pub IsSoundWord : List ℕ → Word → ℕ → ℕ → Type 0
IsSoundWord text words.Number from to = number_of (slice_range text from to) < 2 ^ 63
IsSoundWord text words.Text from to = IsTextPart text (span (from + 1) (to - 1))
IsSoundWord text words.Name from to = IsTextPart text (span from to)
IsSoundWord text words.Reserved from to = Unit {0}
IsSoundWord text words.Sign from to = Unit {0}

pub record IsSoundToken (text : List ℕ) (t : Token) : Type 0 where
  pub forward : t.from ≤ t.to
  pub inside : t.to ≤ length text
  pub fitting : IsSoundWord text t.word t.from t.to

abbrev pub IsSoundSymbol : List ℕ → Symbol → Type 0
IsSoundSymbol text (Atom x) = IsSoundLeaf text x
IsSoundSymbol text s = Unit {0}

abbrev pub IsSoundLexeme : List ℕ → Lexeme → Type 0
IsSoundLexeme text t = IsSoundSymbol text t.symbol

-- ---- too deep
abbrev pub opens : Symbol → Bool
opens LeftParen = true
opens LeftBracket = true
opens s = false

abbrev pub closes : Symbol → Bool
closes RightParen = true
closes RightBracket = true
closes s = false

abbrev pub is_opening : Lexeme → Bool
is_opening t = opens t.symbol

abbrev pub is_closing : Lexeme → Bool
is_closing t = closes t.symbol

-- behind the first k lexemes more than 64 brackets are open: openings less closings
abbrev pub IsDeepAt : List Lexeme → ℕ → Type 0
IsDeepAt ts k = count_by is_closing (take k ts) + 64 < count_by is_opening (take k ts)

-- more than 64 brackets are open at some place, or there are more than 1,024 tokens
abbrev pub IsDeep : List Lexeme → Type 0
IsDeep ts = (1024 < length ts) ⊎ ((k : ℕ) × IsDeepAt ts k)

-- ---- names outside the scope
abbrev pub is_unknown_leaf : List ℕ → List Binding → Leaf → Bool
is_unknown_leaf text scope (Name s) = is_none (place_in scope (part text s))
is_unknown_leaf text scope x = false

abbrev pub is_unknown_symbol : List ℕ → List Binding → Symbol → Bool
is_unknown_symbol text scope (Atom x) = is_unknown_leaf text scope x
is_unknown_symbol text scope s = false

abbrev pub is_unknown : List ℕ → List Binding → Lexeme → Bool
is_unknown text scope t = is_unknown_symbol text scope t.symbol

-- the place of the leftmost name that is not in scope
abbrev pub unknown_place : List ℕ → List Binding → List Lexeme → Option ℕ
unknown_place text scope ts = option_map (λ (t : Lexeme). t.at) (find (is_unknown text scope) ts)
