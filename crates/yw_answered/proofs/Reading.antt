-- By the reader of texts here no text lacks a reading.
use Rattle.std.specs.Prelude.{◌≡◌, ℕ, List, Option, Some, None, Result, Ok, Err, codes, refl}
use Rattle.std.proofs.Common.{⊎_elim, sym, subst, inl, inr}
use Rattle.yw_accept.specs.Verdict.{IsVerdict}
use Rattle.yw_accept.specs.declared.broken.Broken.{Broken}
use Rattle.yw_base.specs.declared.value.Sort.TheVariants as sorts
use Rattle.yw_expr.specs.Parsing.{Means}
use Rattle.yw_expr.specs.Sorts.{tree_sort}
use Rattle.yw_expr.specs.Tree.{Tree}
use Rattle.yw_expr.specs.declared.fault.ExprFault.{ExprFault}
use Rattle.yw_expr.specs.declared.scope.Binding.{Binding}
use Rattle.yw_model.proofs.Answering.{says}
use Rattle.yw_texts.proofs.Judging.{verdict_finds}
use Rattle.yw_texts.proofs.Lacking.{decided, follows, here}
use Rattle.yw_texts.specs.Accepted.{JudgesSaid, check_refusal, document_in}
use Rattle.yw_texts.specs.Lacking.{CannotLack}
use Rattle.yw_texts.specs.Texts.{ReadsCondition, ReadsSpec, fault_text, reader}
use Rattle.yw_read.specs.declared.raw.RawSpec.{RawSpec}
use Rattle.yw_read.specs.declared.raw.ReadFault.{ReadFault}
use Rattle.yw_read.specs.declared.raw.ReadFault.TheVariants.{NotToml, Shape, Memory}
use Rattle.yw_said.proofs.SomeSpec.{says_some}
use Rattle.yw_spec.specs.declared.spec.Spec.{Spec}
use Rattle.yw_state.specs.Broken.{placed, placeless}
use Rattle.yw_state.specs.declared.rule.Refusal.{Refusal}
use Rattle.yw_state.specs.declared.rule.Rule.TheVariants.{SpecShape, SpecText}
use Rattle.yw_answered.proofs.Parsing.{is_meant}
use Rattle.yw_answered.specs.Answered.{ReadsAll}

-- ---- specifications

module _ (text : List ℕ) where
  abbrev IsRead : Type 0
  IsRead = (said : Result Spec Refusal) × ReadsSpec text said

  unfit : (said : Result RawSpec ReadFault) (refusal : Refusal) → document_in text ≡ said → JudgesSaid said (Some refusal) → IsRead
  unfit said refusal is judged = (Err refusal, subst (λ (d : Result RawSpec ReadFault). JudgesSaid d (Some refusal)) (sym is) judged)

  accepted : (raw : RawSpec) → document_in text ≡ Ok raw → IsVerdict raw None → IsRead
  accepted raw is verdict =
      let some = says_some raw verdict in
      (Ok some.0, record { raw = raw; says = is; accepted = verdict; is_spec = some.1 })

  judged : (raw : RawSpec) → document_in text ≡ Ok raw → (broken : Option Broken) → IsVerdict raw broken → IsRead
  judged raw is None verdict = accepted raw is verdict
  judged raw is (Some broken) verdict = unfit (Ok raw) (check_refusal broken) is (Some broken, verdict, refl)

  by_document : (said : Result RawSpec ReadFault) → document_in text ≡ said → CannotLack IsRead
  by_document (Ok raw) is = follows (verdict_finds raw) (λ v. here (judged raw is v.0 v.1))
  by_document (Err NotToml) is = here (unfit (Err NotToml) (placeless SpecText) is refl)
  by_document (Err (Shape path)) is = here (unfit (Err (Shape path)) (placed SpecShape path) is refl)
  by_document (Err Memory) is = absurd (says text is)

  spec_read : CannotLack IsRead
  spec_read = by_document (document_in text) refl

-- ---- conditions

module _ (text : List ℕ) (scope : List Binding) where
  abbrev IsConditionRead : Type 0
  IsConditionRead = (said : Result Tree (List ℕ)) × ReadsCondition text scope said

  by_meaning : (r : Result Tree ExprFault) → Means text scope r → CannotLack IsConditionRead
  by_meaning (Err fault) means = here (Err (fault_text fault), inl (record { fault = fault; means = means; place = refl }))
  by_meaning (Ok test) means =
      follows (decided (tree_sort test ≡ Some sorts.Bool)) (λ d. here (⊎_elim
      (λ (holds : tree_sort test ≡ Some sorts.Bool). (Ok test, (means, holds)))
      (λ (other : tree_sort test ≡ Some sorts.Bool → ⊥). (Err (codes "Types 0"), inr (record { test = test; means = means; other = other; place = refl })))
      d))

  condition_read : CannotLack IsConditionRead
  condition_read = follows (is_meant text scope) (λ m. by_meaning m.0 m.1)

pub reads_all : ReadsAll reader
reads_all = record { spec = spec_read; condition = condition_read }
