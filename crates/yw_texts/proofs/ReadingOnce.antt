-- A text is read in one way.
use Rattle.std.proofs.Common.{◌≡◌, ◌⊎◌, inl, inr, ℕ, List, Option, None, Some, Result, Ok, Err, refl, sym, ap, ◌∙◌, subst}
use Rattle.std.specs.Prelude.{option_map}
use Rattle.yw_lex.specs.Tokens.{AreTokens, StopsAt}
use Rattle.yw_lex.specs.declared.token.Token.{Token}
use Rattle.yw_lex.proofs.TokenLemmas.{same_place, same_tokens, tokens_or_stop}
use Rattle.yw_expr.specs.Lexemes.{lexemes_of}
use Rattle.yw_expr.specs.Parsing.{Means, Reads}
use Rattle.yw_expr.specs.Sorts.{tree_sort}
use Rattle.yw_expr.specs.Tree.{Tree}
use Rattle.yw_expr.specs.declared.fault.ExprFault.{ExprFault}
use Rattle.yw_expr.specs.declared.fault.ExprFault.TheVariants as faults
use Rattle.yw_expr.specs.declared.scope.Binding.{Binding}
use Rattle.yw_expr.proofs.Once.{only}
use Rattle.yw_spec.specs.declared.spec.Spec.{Spec}
use Rattle.yw_read.specs.declared.raw.RawSpec.{RawSpec}
use Rattle.yw_read.specs.declared.raw.ReadFault.{ReadFault}
use Rattle.yw_read.specs.declared.raw.ReadFault.TheVariants.{NotToml, Shape, Memory}
use Rattle.yw_accept.proofs.Once.{verdict-once}
use Rattle.yw_accept.specs.Built.{IsSpec}
use Rattle.yw_said.proofs.OnceSpec.{one_spec}
use Rattle.yw_state.specs.Texts.{IsOne}
use Rattle.yw_state.specs.declared.rule.Refusal.{Refusal}
use Rattle.yw_texts.specs.Accepted.{check_refusal, document_in, JudgesSaid}
use Rattle.yw_texts.specs.Texts.{IsAccepted, IsUnfit, ReadsCondition, ReadsSpec, fault_text, reader}

same_ok : {A E : Type 0} (x y : A) → ◌≡◌ {A = Result A E} (Ok x) (Ok y) → x ≡ y
same_ok x y e = cc

same_err : {A E : Type 0} (x y : E) → ◌≡◌ {A = Result A E} (Err x) (Err y) → x ≡ y
same_err x y e = cc

ok_or_err : {A E : Type 0} (x : A) (y : E) → ◌≡◌ {A = Result A E} (Ok x) (Err y) → ⊥
ok_or_err x y e = cc

-- ---- expressions

module _ (text : List ℕ) (scope : List Binding) where
  reads_once : (ts : List Token) (r q : Result Tree ExprFault) → Reads text scope (lexemes_of text ts) r → Reads text scope (lexemes_of text ts) q → r ≡ q
  reads_once ts (Ok t) q h k = only text scope (lexemes_of text ts) (Ok t) h q k
  reads_once ts (Err (faults.Lex at)) q h k = absurd h
  reads_once ts (Err faults.Deep) q h k = only text scope (lexemes_of text ts) (Err faults.Deep) h q k
  reads_once ts (Err (faults.Syntax at)) q h k = only text scope (lexemes_of text ts) (Err (faults.Syntax at)) h q k
  reads_once ts (Err (faults.UnknownName at)) q h k = only text scope (lexemes_of text ts) (Err (faults.UnknownName at)) h q k
  reads_once ts (Err (faults.Types at)) q h k = only text scope (lexemes_of text ts) (Err (faults.Types at)) h q k
  reads_once ts (Err faults.Memory) q h k = absurd h

  -- the tokens stop, or what is meant is read off them
  Stops : Result Tree ExprFault → Type 0
  Stops r = (at : ℕ) × (r ≡ Err (faults.Lex at)) × StopsAt 0 text at

  IsRead : Result Tree ExprFault → Type 0
  IsRead r = (ts : List Token) × AreTokens 0 text ts × Reads text scope (lexemes_of text ts) r

  by_tokens : (r : Result Tree ExprFault) → Means text scope r → Stops r ⊎ IsRead r
  unfolding Stops IsRead
  by_tokens (Ok t) h = inr h
  by_tokens (Err (faults.Lex at)) h = inl (at, refl, h)
  by_tokens (Err faults.Deep) h = inr h
  by_tokens (Err (faults.Syntax at)) h = inr h
  by_tokens (Err (faults.UnknownName at)) h = inr h
  by_tokens (Err (faults.Types at)) h = inr h
  by_tokens (Err faults.Memory) h = inr h

  meant : (r q : Result Tree ExprFault) → Stops r ⊎ IsRead r → Stops q ⊎ IsRead q → r ≡ q
  unfolding Stops IsRead
  meant r q (inl (a, e, h)) (inl (b, f, k)) = e ∙ ap (λ (at : ℕ). Err (faults.Lex at)) (same_place k h) ∙ sym f
  meant r q (inl (a, e, h)) (inr (ts, p, k)) = absurd (tokens_or_stop p h)
  meant r q (inr (ts, p, h)) (inl (b, f, k)) = absurd (tokens_or_stop p k)
  meant r q (inr (ts, p, h)) (inr (us, s, k)) =
      reads_once ts r q h (subst (λ (vs : List Token). Reads text scope (lexemes_of text vs) q) (same_tokens p s) k)

  means_once : (r q : Result Tree ExprFault) → Means text scope r → Means text scope q → r ≡ q
  means_once r q h k = meant r q (by_tokens r h) (by_tokens q k)

  condition_once : (a b : Result Tree (List ℕ)) → ReadsCondition text scope a → ReadsCondition text scope b → a ≡ b
  condition_once (Ok e) (Ok f) h k = ap Ok (same_ok e f (means_once (Ok e) (Ok f) h.0 k.0))
  condition_once (Ok e) (Err at) h (inl m) = absurd (ok_or_err e m.fault (means_once (Ok e) (Err m.fault) h.0 m.means))
  condition_once (Ok e) (Err at) h (inr n) = absurd (n.other (ap tree_sort (sym (same_ok e n.test (means_once (Ok e) (Ok n.test) h.0 n.means))) ∙ h.1))
  condition_once (Err at) (Ok f) (inl m) k = absurd (ok_or_err f m.fault (means_once (Ok f) (Err m.fault) k.0 m.means))
  condition_once (Err at) (Ok f) (inr n) k = absurd (n.other (ap tree_sort (sym (same_ok f n.test (means_once (Ok f) (Ok n.test) k.0 n.means))) ∙ k.1))
  condition_once (Err a) (Err b) (inl m) (inl n) =
      ap Err (m.place ∙ ap fault_text (same_err m.fault n.fault (means_once (Err m.fault) (Err n.fault) m.means n.means)) ∙ sym n.place)
  condition_once (Err a) (Err b) (inl m) (inr n) = absurd (ok_or_err n.test m.fault (means_once (Ok n.test) (Err m.fault) n.means m.means))
  condition_once (Err a) (Err b) (inr m) (inl n) = absurd (ok_or_err m.test n.fault (means_once (Ok m.test) (Err n.fault) m.means n.means))
  condition_once (Err a) (Err b) (inr m) (inr n) = ap Err (m.place ∙ sym n.place)

-- ---- specifications

-- a document has one first fault at most
pub judged_once : (said : Result RawSpec ReadFault) (r q : Option Refusal) → JudgesSaid said r → JudgesSaid said q → r ≡ q
judged_once (Ok raw) r q (a, v, e) (b, w, f) = e ∙ ap (option_map check_refusal) (verdict-once raw a b v w) ∙ sym f
judged_once (Err NotToml) r q e f = e ∙ sym f
judged_once (Err (Shape path)) r q e f = e ∙ sym f
judged_once (Err Memory) r q e f = absurd e

-- an accepted document has none
pub accepted_fit : (text : List ℕ) (spec : Spec) (refusal : Refusal) → IsAccepted text spec → IsUnfit text refusal → ⊥
accepted_fit text spec refusal a judged =
    let there : JudgesSaid (Ok a.raw) (Some refusal) = subst (λ (said : Result RawSpec ReadFault). JudgesSaid said (Some refusal)) a.says judged in
    let none : Some refusal ≡ None = judged_once (Ok a.raw) (Some refusal) None there (None, a.accepted, refl) in
    cc

spec_once : (text : List ℕ) (a b : Result Spec Refusal) → ReadsSpec text a → ReadsSpec text b → a ≡ b
spec_once text (Ok a) (Ok b) p q =
    let raws : q.raw ≡ p.raw = same_ok q.raw p.raw (sym q.says ∙ p.says) in
    ap Ok (one_spec p.raw a b p.accepted p.is_spec (subst (λ (raw : RawSpec). IsSpec raw b) raws q.is_spec))
spec_once text (Ok a) (Err r) p q = absurd (accepted_fit text a r p q)
spec_once text (Err r) (Ok b) p q = absurd (accepted_fit text b r q p)
spec_once text (Err r) (Err q) j k =
    let same : Some r ≡ Some q = judged_once (document_in text) (Some r) (Some q) j k in
    let refusals : r ≡ q = cc in
    ap Err refusals

pub reads_one : IsOne reader
reads_one = record { spec = spec_once; condition = condition_once }
