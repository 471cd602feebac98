-- The constants of an expression are within the limits of values, whatever bytes its text has.
use Rattle.std.specs.Prelude.{◌≡◌, ◌≤◌, ◌+◌, ◌-◌, ℕ, Bool, true, false, List, [], ◌∷◌, ◌++◌, map, cond, length, take, drop, slice_range, Option, Some, None, Result, Ok, Err, IfOk, IfSome, option_and_then, option_map, refl}
use Rattle.std.specs.List.{All, AllByRecursion, list_all}
use Rattle.std.proofs.Common.{ap, subst, inl, arith, ⊎_elim, length-append, length-take}
use Rattle.std.proofs.lemmas.Bool.{and_from, cases_lt, le-leb}
use Rattle.std.proofs.lemmas.List.{length-map}
use Rattle.std.proofs.lemmas.List.Elements.{All-weaker, recursion_from_All}
use Rattle.yw_base.specs.Values.{is_short, most_text_bytes}
use Rattle.yw_base.specs.declared.value.Value.TheVariants as values
use Rattle.yw_expr.proofs.Sound.{split}
use Rattle.yw_expr.specs.declared.fault.ExprFault.{ExprFault}
use Rattle.yw_expr.specs.declared.scope.Binding.{Binding}
use Rattle.yw_expr.specs.Lexemes.{IsDeep, IsSoundLexeme, IsSoundSymbol, lexemes_of, sign_symbol, symbol_as, word_symbol}
use Rattle.yw_expr.specs.Parsing.{Means, Reads, ReadsOr}
use Rattle.yw_expr.specs.Scope.{place_in, variable_at}
use Rattle.yw_expr.specs.Small.{HasSmallConstants}
use Rattle.yw_expr.specs.Tree.{Tree, constant, variable, function, unary, binary, element}
use Rattle.yw_expr.specs.Typing.{IsSoundLeaf, part, is_number, is_text, number_of, text_of, leaf_tree, list_tree, tree_in}
use Rattle.yw_grammar.specs.declared.symbol.Leaf.{Leaf}
use Rattle.yw_grammar.specs.declared.symbol.Leaf.TheVariants as leaves
use Rattle.yw_grammar.specs.declared.symbol.Lexeme.{Lexeme}
use Rattle.yw_grammar.specs.declared.symbol.Literal.{Literal}
use Rattle.yw_grammar.specs.declared.symbol.Span.{Span}
use Rattle.yw_grammar.specs.declared.symbol.Symbol.{Symbol}
use Rattle.yw_grammar.specs.declared.symbol.Symbol.TheVariants.{Atom, Operator, RightParen, LeftBracket, RightBracket, Comma}
use Rattle.yw_grammar.specs.Grammar.{Form, lexeme, Spells, looser, a_leaf, a_list, a_call, a_group, an_item, with_one, with_two, IsLiteral, plain, negative, a_text, AreLiterals, last}
use Rattle.yw_grammar.specs.Grammar as grammar
use Rattle.yw_lex.specs.Spelling.{IsText, quote}
use Rattle.yw_lex.specs.Tokens.{AreTokens, IsLongestToken}
use Rattle.yw_lex.specs.Tokens.AreTokens.{none, blank, next}
use Rattle.yw_lex.specs.declared.token.Token.{Token}
use Rattle.yw_lex.specs.declared.token.Word.{Word}
use Rattle.yw_lex.specs.declared.token.Word.TheVariants as words

-- ---- texts among the lexemes are short

abbrev IsShortLeaf : Leaf → Type 0
IsShortLeaf (leaves.Text s) = s.to ≤ s.from + most_text_bytes
IsShortLeaf x = Unit {0}

abbrev IsShortSymbol : Symbol → Type 0
IsShortSymbol (Atom x) = IsShortLeaf x
IsShortSymbol symbol = Unit {0}

abbrev IsShortLexeme : Lexeme → Type 0
IsShortLexeme t = IsShortSymbol t.symbol

abbrev AreShort : List Lexeme → Type 0
AreShort ts = AllByRecursion IsShortLexeme ts

-- the symbol is no text, or a short one
record Fits (s : Symbol) : Type 0 where
  short : IsShortSymbol s

either : (b : Bool) (x y : Symbol) → Fits x → Fits y → Fits (cond b x y)
either true x y h k = h
either false x y h k = k

other : (s : Symbol) → IsShortSymbol s → Fits s
other s h = record { short = h }

word_short : (bytes : List ℕ) → Fits (word_symbol bytes)
word_short bytes = search (either, other) depth 20

sign_short : (bytes : List ℕ) → Fits (sign_symbol bytes)
sign_short bytes = search (either, other) depth 20

leaf_sound : (text : List ℕ) (x : Leaf) → IsSoundLeaf text x → IsShortLeaf x
leaf_sound text (leaves.Text s) h = h.short
leaf_sound text x h = tt

symbol_sound : (text : List ℕ) (s : Symbol) → IsSoundSymbol text s → IsShortSymbol s
symbol_sound text (Atom x) h = leaf_sound text x h
symbol_sound text s h = tt

-- between its quotes a text has no more bytes than are allowed
text_short : (bytes : List ℕ) (at len : ℕ) → len ≤ length bytes → IsText (take len bytes) → at + len - 1 ≤ at + 1 + most_text_bytes
text_short bytes at len within q =
    let short = q.short in
    let whole : len ≡ length q.inner + 2 = omega (arith, within, length-take len bytes, ap (λ (bs : List ℕ). length bs) q.quoted, length-append q.inner (quote ∷ [])) in
    omega (arith, whole, short)

symbol_short : (word : Word) (text bytes : List ℕ) (at len : ℕ) → IsLongestToken word bytes len → IsShortSymbol (symbol_as word (slice_range text at (at + len)) at (at + len))
symbol_short words.Number text bytes at len h = tt
symbol_short words.Text text bytes at len h = text_short bytes at len h.longest.within h.spelled
symbol_short words.Name text bytes at len h = tt
symbol_short words.Reserved text bytes at len h = (word_short (slice_range text at (at + len))).short
symbol_short words.Sign text bytes at len h = (sign_short (slice_range text at (at + len))).short

tokens_short : (text : List ℕ) {at : ℕ} {bytes : List ℕ} {tokens : List Token} → AreTokens at bytes tokens → AreShort (lexemes_of text tokens)
tokens_short text none = tt
tokens_short text (blank is rest) = tokens_short text rest
tokens_short text (next {at} word len {bytes} is rest) = (symbol_short word text bytes at len is, tokens_short text rest)

-- ---- lists are short, since the lexemes are few

literal_len : {ts : List Lexeme} {x : Literal} → IsLiteral ts x → 1 ≤ length ts
literal_len (plain n at) = omega arith
literal_len (negative n p at) = omega arith
literal_len (a_text s at) = omega arith

literals_len : {ts : List Lexeme} {xs : List Literal} → AreLiterals ts xs → length xs + length xs ≤ length ts + 1
literals_len (last ts x r) = let h = literal_len r in omega arith
literals_len (grammar.then p ts us x rest r q) =
    let h = literal_len r in
    let k = literals_len q in
    omega (arith, length-append ts (lexeme Comma p ∷ us))

module _ (text : List ℕ) (scope : List Binding) where
  abbrev Small : Option Tree → Type 0
  Small o = IfSome o HasSmallConstants

  part_short : (s : Span) → s.to ≤ s.from + most_text_bytes → is_short (part text s) ≡ true
  part_short s short = le-leb _ _ (omega (arith, short, length-take (s.to - s.from) (drop s.from text)))

  literal_short : {ts : List Lexeme} {x : Literal} → IsLiteral ts x → AreShort ts → is_short (text_of text x) ≡ true
  literal_short (plain n at) h = refl
  literal_short (negative n p at) h = refl
  literal_short (a_text s at) h = part_short s h.0

  literals_short : {ts : List Lexeme} {xs : List Literal} → AreLiterals ts xs → AreShort ts → list_all is_short (map (text_of text) xs) ≡ true
  literals_short (last ts x r) h = and_from _ _ (literal_short r h) refl
  literals_short (grammar.then p ts us x rest r q) h =
      let (a, b) = split IsShortLexeme ts (lexeme Comma p ∷ us) h in
      and_from _ _ (literal_short r a) (literals_short q b.1)

  place_small : (o : Option ℕ) → Small (option_and_then (variable_at scope) o)
  place_small None = tt
  place_small (Some k) = variable_small _
    where
      variable_small : (o : Option Binding) → Small (option_map (λ (b : Binding). variable k b.sort) o)
      variable_small None = tt
      variable_small (Some b) = tt

  leaf_small : (x : Leaf) → IsShortLeaf x → Small (leaf_tree text scope x)
  leaf_small (leaves.Number n) h = refl
  leaf_small (leaves.Text s) h = part_short s h
  leaf_small (leaves.Name s) h = place_small (place_in scope (part text s))
  leaf_small (leaves.Truth b) h = refl

  list_small : (items : List Literal) → length items ≤ 1000 → list_all is_short (map (text_of text) items) ≡ true → Small (list_tree text items)
  list_small items few short = choice (list_all is_number items) (list_all is_text items)
    where
      choice : (b c : Bool) → Small (cond b (Some (constant (values.Ints (map number_of items)))) (cond c (Some (constant (values.Texts (map (text_of text) items)))) None))
      choice true c = le-leb _ _ (omega (arith, few, length-map items number_of))
      choice false true = and_from _ _ (le-leb _ _ (omega (arith, few, length-map items (text_of text)))) short
      choice false false = tt

  mapped : (make : Tree → Tree) → ((t : Tree) → HasSmallConstants t → HasSmallConstants (make t)) → (o : Option Tree) → Small o → Small (option_map make o)
  mapped make step None h = tt
  mapped make step (Some t) h = step t h

  both_mapped : (make : Tree → Tree → Tree) → ((t u : Tree) → HasSmallConstants t → HasSmallConstants u → HasSmallConstants (make t u)) → (o p : Option Tree) → Small o → Small p → Small (option_and_then (λ a. option_map (make a) p) o)
  both_mapped make step None p h k = tt
  both_mapped make step (Some t) None h k = tt
  both_mapped make step (Some t) (Some u) h k = step t u h k

  form_small : {l : ℕ} {ts : List Lexeme} {e : Form} → Spells l ts e → AreShort ts → length ts ≤ 1024 → Small (tree_in text scope e)
  form_small (looser le r) h few = form_small r h few
  form_small (a_leaf x at) h few = leaf_small x h.0
  form_small (a_list p q ts items r) h few =
      let (a, b) = split IsShortLexeme ts (lexeme RightBracket q ∷ []) h.1 in
      let k = literals_len r in
      list_small items (omega (arith, length-append ts (lexeme RightBracket q ∷ []))) (literals_short r a)
  form_small (a_call f at p q ts {e} r) h few =
      mapped (function f) (λ t g. g) (tree_in text scope e) (form_small r (split IsShortLexeme ts (lexeme RightParen q ∷ []) h.1.1).0 (omega (arith, length-append ts (lexeme RightParen q ∷ []))))
  form_small (a_group p q ts r) h few = form_small r (split IsShortLexeme ts (lexeme RightParen q ∷ []) h.1).0 (omega (arith, length-append ts (lexeme RightParen q ∷ [])))
  form_small (an_item p q xs ks {x} {k} rx rk) h few =
      let front = split IsShortLexeme (xs ++ lexeme LeftBracket p ∷ ks) (lexeme RightBracket q ∷ []) h in
      let (a, b) = split IsShortLexeme xs (lexeme LeftBracket p ∷ ks) front.0 in
      let whole = length-append (xs ++ lexeme LeftBracket p ∷ ks) (lexeme RightBracket q ∷ []) in
      let inner = length-append xs (lexeme LeftBracket p ∷ ks) in
      both_mapped element (λ t u g j. (g, j)) (tree_in text scope x) (tree_in text scope k) (form_small rx a (omega arith)) (form_small rk b.1 (omega arith))
  form_small (with_one op at {x = x} r) h few = mapped (unary op) (λ t g. g) (tree_in text scope x) (form_small r h.1 (omega arith))
  form_small (with_two op at xs ys {x} {y} rx ry) h few =
      let (a, b) = split IsShortLexeme xs (lexeme (Operator op) at ∷ ys) h in
      let whole = length-append xs (lexeme (Operator op) at ∷ ys) in
      both_mapped (binary op) (λ t u g k. (g, k)) (tree_in text scope x) (tree_in text scope y) (form_small rx a (omega arith)) (form_small ry b.1 (omega arith))

  few_lexemes : (ts : List Lexeme) → (IsDeep ts → ⊥) → length ts ≤ 1024
  few_lexemes ts flat = ⊎_elim (λ h. absurd (flat (inl h))) (λ h. h) (cases_lt 1024 (length ts))

  spelled_small : (ts : List Lexeme) → AreShort ts → (e : Tree) → Reads text scope ts (Ok e) → HasSmallConstants e
  spelled_small ts short e (form, named, sorted, is) = subst (λ o. Small o) is (form_small named.spelled.spelled short (few_lexemes ts named.spelled.flat))

  pub meant_small : (e : Tree) → Means text scope (Ok e) → HasSmallConstants e
  meant_small e (tokens, are, reads) = spelled_small (lexemes_of text tokens) (tokens_short text are) e reads

  pub reads_small : (ts : List Lexeme) → All (IsSoundLexeme text) ts → (result : Result Tree ExprFault) → ReadsOr text scope ts result → IfOk result HasSmallConstants
  reads_small ts all (Err f) h = tt
  reads_small ts all (Ok e) reads = spelled_small ts (recursion_from_All IsShortLexeme ts (All-weaker (IsSoundLexeme text) IsShortLexeme (λ t. symbol_sound text t.symbol) ts all)) e reads
