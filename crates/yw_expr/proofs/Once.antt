-- A text has one meaning.
use Rattle.std.proofs.Common.{◌≡◌, ℕ, List, length, Result, Ok, Err, refl, sym, ap, subst}
use Rattle.std.specs.Prelude.{IsErrAnd}
use Rattle.yw_lex.specs.declared.token.Token.{Token}
use Rattle.yw_lex.specs.Tokens.{AreTokens, StopsAt}
use Rattle.yw_grammar.specs.declared.symbol.Lexeme.{Lexeme}
use Rattle.yw_grammar.specs.Grammar.{Form}
use Rattle.yw_grammar.specs.declared.tree.SyntaxFault.{SyntaxFault}
use Rattle.yw_grammar.specs.declared.tree.SyntaxFault.TheVariants as syntax_faults
use Rattle.yw_grammar.specs.Reading.{IsFault}
use Rattle.yw_grammar.proofs.Sound.{one_tree}
use Rattle.yw_grammar.proofs.Turns.{one_place, no_fault_in}
use Rattle.yw_expr.specs.declared.fault.ExprFault.{ExprFault}
use Rattle.yw_expr.specs.declared.fault.ExprFault.TheVariants.{Lex, Deep, Syntax, UnknownName, Types, Memory}
use Rattle.yw_expr.specs.declared.scope.Binding.{Binding}
use Rattle.yw_expr.specs.Faults.{of_syntax}
use Rattle.yw_expr.specs.Lexemes.{lexemes_of, IsDeep}
use Rattle.yw_expr.specs.Parsing.{IsNamed, Reads, ReadsOr, Means, MeansOr, Gives, IsTyped}
use Rattle.yw_expr.specs.Tree.{Tree}

module _ (text : List ℕ) (scope : List Binding) (ts : List Lexeme) where
  same_form : {e f : Form} → IsNamed text scope ts e → IsNamed text scope ts f → e ≡ f
  same_form h k = one_tree h.spelled.spelled k.spelled.spelled

  once : (r q : Result Tree ExprFault) → Reads text scope ts r → Reads text scope ts q → r ≡ q
  once (Err Deep) (Err Deep) d h = refl
  once (Err Deep) (Err (Syntax at)) d h = absurd (h.0 d)
  once (Err Deep) (Err (UnknownName at)) d (e, h, p) = absurd (h.flat d)
  once (Err Deep) (Err (Types at)) d (e, h, p) = absurd (h.spelled.flat d)
  once (Err Deep) (Ok t) d (e, h, p, q) = absurd (h.spelled.flat d)
  once (Err (Syntax at)) (Err Deep) h d = absurd (h.0 d)
  once (Err (Syntax at)) (Err (Syntax p)) h k = ap (λ x. Err (Syntax x)) (one_place ts (length text) at p h.1 k.1)
  once (Err (Syntax at)) (Err (UnknownName p)) h (e, k, q) = absurd (no_fault_in ts (length text) at e k.spelled h.1)
  once (Err (Syntax at)) (Err (Types p)) h (e, k, q) = absurd (no_fault_in ts (length text) at e k.spelled.spelled h.1)
  once (Err (Syntax at)) (Ok t) h (e, k, p, q) = absurd (no_fault_in ts (length text) at e k.spelled.spelled h.1)
  once (Err (UnknownName at)) (Err Deep) (e, h, p) d = absurd (h.flat d)
  once (Err (UnknownName at)) (Err (Syntax p)) (e, h, q) k = absurd (no_fault_in ts (length text) p e h.spelled k.1)
  once (Err (UnknownName at)) (Err (UnknownName p)) (e, h, q) (f, k, r) = cc
  once (Err (UnknownName at)) (Err (Types p)) (e, h, q) (f, k, r) = let n = k.named in cc
  once (Err (UnknownName at)) (Ok t) (e, h, q) (f, k, r, s) = let n = k.named in cc
  once (Err (Types at)) (Err Deep) (e, h, p) d = absurd (h.spelled.flat d)
  once (Err (Types at)) (Err (Syntax p)) (e, h, q) k = absurd (no_fault_in ts (length text) p e h.spelled.spelled k.1)
  once (Err (Types at)) (Err (UnknownName p)) (e, h, q) (f, k, r) = let n = h.named in cc
  once (Err (Types at)) (Err (Types p)) (e, h, q) (f, k, r) = let n = same_form h k in cc
  once (Err (Types at)) (Ok t) (e, h, q) (f, k, r, s) = let n = same_form h k in cc
  once (Ok t) (Err Deep) (e, h, p, q) d = absurd (h.spelled.flat d)
  once (Ok t) (Err (Syntax p)) (e, h, q, s) k = absurd (no_fault_in ts (length text) p e h.spelled.spelled k.1)
  once (Ok t) (Err (UnknownName p)) (e, h, q, s) (f, k, r) = let n = h.named in cc
  once (Ok t) (Err (Types p)) (e, h, q, s) (f, k, r) = let n = same_form h k in cc
  once (Ok t) (Ok u) (e, h, q, s) (f, k, r, z) = let n = same_form h k in cc
  once (Err (Lex at)) q h k = absurd h
  once (Err Memory) q h k = absurd h
  once r (Err (Lex at)) h k = absurd k
  once r (Err Memory) h k = absurd k

  pub only : (result : Result Tree ExprFault) → ReadsOr text scope ts result → (r : Result Tree ExprFault) → Reads text scope ts r → Gives result r
  only (Err Memory) h r k = tt
  only (Ok t) h r k = once (Ok t) r h k
  only (Err (Lex at)) h r k = absurd h
  only (Err Deep) h r k = once (Err Deep) r h k
  only (Err (Syntax at)) h r k = once (Err (Syntax at)) r h k
  only (Err (UnknownName at)) h r k = once (Err (UnknownName at)) r h k
  only (Err (Types at)) h r k = once (Err (Types at)) r h k

  pub typed_reads : (form : Form) → IsNamed text scope ts form → (result : Result Tree ExprFault) → IsTyped text scope form result → ReadsOr text scope ts result
  typed_reads form h (Ok t) k = (form, h, k.0, k.1)
  typed_reads form h (Err Memory) k = tt
  typed_reads form h (Err (Types at)) k = (form, h, k)
  typed_reads form h (Err (Lex at)) k = absurd k
  typed_reads form h (Err Deep) k = absurd k
  typed_reads form h (Err (Syntax at)) k = absurd k
  typed_reads form h (Err (UnknownName at)) k = absurd k

  pub syntax_reads : (IsDeep ts → ⊥) → (f : SyntaxFault) → IsFault f ts (length text) → ReadsOr text scope ts (Err (of_syntax f))
  syntax_reads flat (syntax_faults.At at) h = (flat, h)
  syntax_reads flat syntax_faults.Memory h = tt

  pub syntax_fault : (IsDeep ts → ⊥) → (f : SyntaxFault) → IsFault f ts (length text) → (result : Result Tree ExprFault) → IsErrAnd result (λ e. e ≡ of_syntax f) → ReadsOr text scope ts result
  syntax_fault flat f h (Ok t) k = absurd k
  syntax_fault flat f h (Err e) k = subst (λ x. ReadsOr text scope ts (Err x)) (sym k) (syntax_reads flat f h)

module _ (text : List ℕ) (scope : List Binding) where
  pub tokens_mean : (tokens : List Token) → AreTokens 0 text tokens → (result : Result Tree ExprFault) → ReadsOr text scope (lexemes_of text tokens) result → MeansOr text scope result
  tokens_mean tokens h (Ok t) k = (tokens, h, k)
  tokens_mean tokens h (Err (Lex at)) k = absurd k
  tokens_mean tokens h (Err Deep) k = (tokens, h, k)
  tokens_mean tokens h (Err (Syntax at)) k = (tokens, h, k)
  tokens_mean tokens h (Err (UnknownName at)) k = (tokens, h, k)
  tokens_mean tokens h (Err (Types at)) k = (tokens, h, k)
  tokens_mean tokens h (Err Memory) k = tt

  -- what is said of the text's one list of tokens is said of the text
  module _ (tokens : List Token) (one : (others : List Token) → AreTokens 0 text others → tokens ≡ others) (free : (at : ℕ) → StopsAt 0 text at → ⊥) (result : Result Tree ExprFault) (reads : (r : Result Tree ExprFault) → Reads text scope (lexemes_of text tokens) r → Gives result r) where
    reads_others : (others : List Token) → AreTokens 0 text others → (r : Result Tree ExprFault) → Reads text scope (lexemes_of text others) r → Gives result r
    reads_others others h r k = reads r (subst (λ ts. Reads text scope (lexemes_of text ts) r) (sym (one others h)) k)

    pub only_tokens : (r : Result Tree ExprFault) → Means text scope r → Gives result r
    only_tokens (Err (Lex at)) h = absurd (free at h)
    only_tokens (Ok t) (others, h, k) = reads_others others h (Ok t) k
    only_tokens (Err Deep) (others, h, k) = reads_others others h (Err Deep) k
    only_tokens (Err (Syntax at)) (others, h, k) = reads_others others h (Err (Syntax at)) k
    only_tokens (Err (UnknownName at)) (others, h, k) = reads_others others h (Err (UnknownName at)) k
    only_tokens (Err (Types at)) (others, h, k) = reads_others others h (Err (Types at)) k
    only_tokens (Err Memory) (others, h, k) = reads_others others h (Err Memory) k
