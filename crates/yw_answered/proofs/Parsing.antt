-- No list of lexemes lacks its expression or its first fault, and no text lacks a meaning.
use Rattle.std.specs.Prelude.{◌≡◌, ◌⊎◌, ℕ, true, List, [], ◌∷◌, ◌++◌, length, None, Result, Ok, Err, refl}
use Rattle.std.proofs.Common.{⊎_elim, sym, ◌∙◌, subst, inl, inr, arith, append_assoc, append-nil}
use Rattle.yw_base.specs.declared.value.Sort.{Sort}
use Rattle.yw_expr.proofs.Found.{typed_fault, typed_tree}
use Rattle.yw_expr.specs.Lexemes.{IsDeep, lexemes_of, unknown_place}
use Rattle.yw_expr.specs.Parsing.{Means, Reads}
use Rattle.yw_expr.specs.Tree.{Tree}
use Rattle.yw_expr.specs.Walk.{verdict}
use Rattle.yw_expr.specs.declared.fault.ExprFault.{ExprFault}
use Rattle.yw_expr.specs.declared.fault.ExprFault.TheVariants as faults
use Rattle.yw_expr.specs.declared.scope.Binding.{Binding}
use Rattle.yw_grammar.specs.Grammar.{AreAll, Begins, Form, IsSyntaxFault, StopsAt, a_leaf, leaf, lexeme, looser}
use Rattle.yw_grammar.specs.declared.symbol.Leaf.TheVariants.{Truth}
use Rattle.yw_grammar.specs.declared.symbol.Lexeme.{Lexeme}
use Rattle.yw_grammar.specs.declared.symbol.Symbol.TheVariants.{Atom}
use Rattle.yw_lex.specs.Tokens.{AreTokens}
use Rattle.yw_lex.specs.Tokens as tokens
use Rattle.yw_lex.specs.declared.token.Token.{Token}
use Rattle.yw_texts.proofs.Lacking.{decided, follows, here}
use Rattle.yw_texts.specs.Lacking.{CannotLack}
use Rattle.yw_state.proofs.Tests.{by_option}
use Rattle.yw_answered.proofs.Lexing.{is_lexed}

-- ---- lexemes

begins_at_all : Begins []
begins_at_all = (lexeme (Atom (Truth true)) 0 ∷ [], leaf 0 (Truth true), looser (omega arith) (a_leaf (Truth true) 0))

-- the first lexeme that with those before it begins no expression
stops_in : (ts front back : List Lexeme) → ts ≡ front ++ back → Begins front → (Begins ts → ⊥) → CannotLack ((at : ℕ) × StopsAt ts at)
stops_in ts front [] is begins none = absurd (none (subst Begins (sym (is ∙ append-nil front)) begins))
stops_in ts front (t ∷ back) is begins none =
    let later = λ (more : Begins (front ++ t ∷ [])). stops_in ts (front ++ t ∷ []) back (is ∙ sym (append_assoc front (t ∷ []) back)) more none in
    follows (decided (Begins (front ++ t ∷ []))) (λ d. ⊎_elim later (λ (els : Begins (front ++ t ∷ []) → ⊥). here (t.at, (front, t, back, is, begins, els, refl))) d)

abbrev IsParsed : List Lexeme → ℕ → Type 0
IsParsed ts end = ((form : Form) × AreAll ts form) ⊎ ((at : ℕ) × IsSyntaxFault ts end at)

is_parsed : (ts : List Lexeme) (end : ℕ) → CannotLack (IsParsed ts end)
is_parsed ts end =
    follows (decided ((form : Form) × AreAll ts form)) (λ d. ⊎_elim
    (λ (spelled : (form : Form) × AreAll ts form). here (inl spelled))
    (λ (els : ((form : Form) × AreAll ts form) → ⊥). follows (decided (Begins ts)) (λ b. ⊎_elim
    (λ (begins : Begins ts). here (inr (end, inr ((begins, λ form are. els (form, are)), refl))))
    (λ (none : Begins ts → ⊥). follows (stops_in ts [] ts refl begins_at_all none) (λ stops. here (inr (stops.0, inl stops.1))))
    b))
    d)

-- ---- what lexemes mean in a scope

module _ (text : List ℕ) (scope : List Binding) (ts : List Lexeme) where
  abbrev IsRead : Type 0
  IsRead = (r : Result Tree ExprFault) × Reads text scope ts r

  typed : (form : Form) → (IsDeep ts → ⊥) → AreAll ts form → unknown_place text scope ts ≡ None → IsRead
  typed form flat are known = by_verdict (verdict text scope form) refl
    where
      by_verdict : (v : Result (Tree × Sort) ℕ) → verdict text scope form ≡ v → IsRead
      by_verdict (Err at) is = (Err (faults.Types at), (form, record { spelled = record { flat = flat; spelled = are }; named = known }, typed_fault text scope form (faults.Types at) is))
      by_verdict (Ok (e, sort)) is =
          let right = typed_tree text scope form e e sort is refl in (Ok e, (form, record { spelled = record { flat = flat; spelled = are }; named = known }, right.0, right.1))

  named : (form : Form) → (IsDeep ts → ⊥) → AreAll ts form → IsRead
  named form flat are =
      by_option (unknown_place text scope ts)
      (λ known. typed form flat are known)
      (λ at unknown. (Err (faults.UnknownName at), (form, record { flat = flat; spelled = are }, unknown)))

  is_read : CannotLack IsRead
  is_read =
      follows (decided (IsDeep ts)) (λ d. ⊎_elim
      (λ (deep : IsDeep ts). here (Err faults.Deep, deep))
      (λ (flat : IsDeep ts → ⊥). follows (is_parsed ts (length text)) (λ p. here (⊎_elim
      (λ (spelled : (form : Form) × AreAll ts form). named spelled.0 flat spelled.1)
      (λ (fault : (at : ℕ) × IsSyntaxFault ts (length text) at). (Err (faults.Syntax fault.0), (flat, fault.1)))
      p)))
      d)

-- ---- what a text means

abbrev pub IsMeant : List ℕ → List Binding → Type 0
IsMeant text scope = (r : Result Tree ExprFault) × Means text scope r

from_lexemes : (text : List ℕ) (scope : List Binding) (ts : List Token) → AreTokens 0 text ts → (r : Result Tree ExprFault) → Reads text scope (lexemes_of text ts) r → Means text scope r
from_lexemes text scope ts are (Err (faults.Lex at)) reads = absurd reads
from_lexemes text scope ts are (Err faults.Memory) reads = absurd reads
from_lexemes text scope ts are r reads = (ts, are, reads)

pub is_meant : (text : List ℕ) (scope : List Binding) → CannotLack (IsMeant text scope)
is_meant text scope =
    follows (is_lexed text) (λ d. ⊎_elim
    (λ (lexed : (ts : List Token) × AreTokens 0 text ts). follows (is_read text scope (lexemes_of text lexed.0)) (λ read. here (read.0, from_lexemes text scope lexed.0 lexed.1 read.0 read.1)))
    (λ (stopped : (place : ℕ) × tokens.StopsAt 0 text place). here (Err (faults.Lex stopped.0), stopped.1))
    d)
