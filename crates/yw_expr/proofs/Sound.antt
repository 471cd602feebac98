-- What the lexemes have by themselves, the form that they spell has.
use Rattle.std.proofs.Common.{ℕ, List, [], ◌∷◌, ◌++◌}
use Rattle.std.specs.List.{All, AllByRecursion}
use Rattle.std.proofs.lemmas.List.Elements.{All-nil, All-cons, recursion_from_All}
use Rattle.yw_grammar.specs.declared.symbol.Lexeme.{Lexeme}
use Rattle.yw_grammar.specs.declared.symbol.Literal.{Literal}
use Rattle.yw_grammar.specs.declared.symbol.Symbol.TheVariants.{Operator, RightParen, LeftBracket, RightBracket, Comma}
use Rattle.yw_grammar.specs.Grammar.{Form, lexeme, Spells, looser, a_leaf, a_list, a_call, a_group, an_item, with_one, with_two, IsLiteral, plain, negative, a_text, AreLiterals, last, then}
use Rattle.yw_expr.specs.Lexemes.{IsSoundLexeme}
use Rattle.yw_expr.specs.Typing.{IsSound, IsSoundNumber, IsSoundText}

module _ (P : Lexeme → Type 0) where
  pub split : (xs ys : List Lexeme) → AllByRecursion P (xs ++ ys) → AllByRecursion P xs × AllByRecursion P ys
  split [] ys h = (tt, h)
  split (x ∷ xs) ys (p, h) = let (a, b) = split xs ys h in ((p, a), b)

module _ (text : List ℕ) where
  abbrev Sounds : List Lexeme → Type 0
  Sounds ts = AllByRecursion (IsSoundLexeme text) ts

  literal_number : {ts : List Lexeme} {x : Literal} → IsLiteral ts x → Sounds ts → IsSoundNumber x
  literal_number (plain n at) h = h.0
  literal_number (negative n p at) h = h.1.0
  literal_number (a_text s at) h = tt

  literal_text : {ts : List Lexeme} {x : Literal} → IsLiteral ts x → Sounds ts → IsSoundText text x
  literal_text (plain n at) h = tt
  literal_text (negative n p at) h = tt
  literal_text (a_text s at) h = h.0

  literal_numbers : {ts : List Lexeme} {xs : List Literal} → AreLiterals ts xs → Sounds ts → All IsSoundNumber xs
  literal_numbers (last ts x r) h = All-cons IsSoundNumber x [] (literal_number r h) (All-nil IsSoundNumber)
  literal_numbers (then p ts us x rest r q) h =
      let (a, b) = split (IsSoundLexeme text) ts (lexeme Comma p ∷ us) h in
      All-cons IsSoundNumber x rest (literal_number r a) (literal_numbers q b.1)

  literal_texts : {ts : List Lexeme} {xs : List Literal} → AreLiterals ts xs → Sounds ts → All (IsSoundText text) xs
  literal_texts (last ts x r) h = All-cons (IsSoundText text) x [] (literal_text r h) (All-nil (IsSoundText text))
  literal_texts (then p ts us x rest r q) h =
      let (a, b) = split (IsSoundLexeme text) ts (lexeme Comma p ∷ us) h in
      All-cons (IsSoundText text) x rest (literal_text r a) (literal_texts q b.1)

  form_sound : {l : ℕ} {ts : List Lexeme} {e : Form} → Spells l ts e → Sounds ts → IsSound text e
  form_sound (looser le r) h = form_sound r h
  form_sound (a_leaf x at) h = h.0
  form_sound (a_list p q ts items r) h = let (a, b) = split (IsSoundLexeme text) ts (lexeme RightBracket q ∷ []) h.1 in (literal_numbers r a, literal_texts r a)
  form_sound (a_call f at p q ts r) h = form_sound r (split (IsSoundLexeme text) ts (lexeme RightParen q ∷ []) h.1.1).0
  form_sound (a_group p q ts r) h = form_sound r (split (IsSoundLexeme text) ts (lexeme RightParen q ∷ []) h.1).0
  form_sound (an_item p q xs ks rx rk) h =
      let front = split (IsSoundLexeme text) (xs ++ lexeme LeftBracket p ∷ ks) (lexeme RightBracket q ∷ []) h in
      let (a, b) = split (IsSoundLexeme text) xs (lexeme LeftBracket p ∷ ks) front.0 in
      (form_sound rx a, form_sound rk b.1)
  form_sound (with_one op at r) h = form_sound r h.1
  form_sound (with_two op at xs ys rx ry) h =
      let (a, b) = split (IsSoundLexeme text) xs (lexeme (Operator op) at ∷ ys) h in
      (form_sound rx a, form_sound ry b.1)

  pub sound : (ts : List Lexeme) (e : Form) → Spells 0 ts e → All (IsSoundLexeme text) ts → IsSound text e
  sound ts e r h = form_sound r (recursion_from_All (IsSoundLexeme text) ts h)
