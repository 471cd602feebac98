-- What is found of a text, by what it says.
use Rattle.std.proofs.Common.{◌≡◌, ℕ, List, None, Some, Result, Ok, Err, refl, sym, ◌∙◌, subst}
use Rattle.std.specs.Prelude.{true, false, if◌then◌else◌}
use Rattle.std.specs.Str.{IsUtf8, is_utf8}
use Rattle.std.proofs.lemmas.Str.{is_utf8-from_IsUtf8, IsUtf8-from_is_utf8}
use Rattle.yw_read.specs.Reading.{spec_in}
use Rattle.yw_read.specs.declared.raw.RawSpec.{RawSpec}
use Rattle.yw_read.specs.declared.raw.ReadFault.{ReadFault}
use Rattle.yw_read.specs.declared.raw.ReadFault.TheVariants.{NotToml}
use Rattle.yw_texts.specs.Accepted.{document_in, JudgesSaid}
use Rattle.yw_texts.specs.Texts.{ReadsSpec}
use Rattle.yw_spec.specs.declared.spec.Spec.{Spec}
use Rattle.yw_state.specs.Broken.{placeless}
use Rattle.yw_state.specs.declared.rule.Refusal.{Refusal}
use Rattle.yw_state.specs.declared.rule.Rule.TheVariants.{SpecText}
use Rattle.yw_verdict.specs.Found.{finding_of, FindsSaid, SaysSpec}

-- bytes that are UTF-8 say what their text says, and others nothing
pub document_of_text : (bytes : List ℕ) → IsUtf8 bytes → document_in bytes ≡ spec_in bytes
unfolding document_in
document_of_text bytes u = rw (is_utf8-from_IsUtf8 bytes u) refl

pub document_of_others : (bytes : List ℕ) → (IsUtf8 bytes → ⊥) → document_in bytes ≡ Err NotToml
unfolding document_in
document_of_others bytes none =
    elim (is_utf8 bytes) as (λ b. is_utf8 bytes ≡ b → (if b then spec_in bytes else Err NotToml) ≡ Err NotToml) [
      | true ↦ λ e. absurd (none (IsUtf8-from_is_utf8 bytes e))
      | false ↦ λ e. refl
    ] refl

-- what a text of UTF-8 says, as its document
pub reads_by : (bytes : List ℕ) (said : Result Spec Refusal) → IsUtf8 bytes → SaysSpec (spec_in bytes) said → ReadsSpec bytes said
reads_by bytes (Ok spec) u (raw, says, verdict, is_spec) = record { raw = raw; says = document_of_text bytes u ∙ says; accepted = verdict; is_spec = is_spec }
reads_by bytes (Err refusal) u judged = subst (λ (d : Result RawSpec ReadFault). JudgesSaid d (Some refusal)) (sym (document_of_text bytes u)) judged

-- what is found where this is said
pub finds_by : (bytes : List ℕ) (said : Result Spec Refusal) → ReadsSpec bytes said → FindsSaid (document_in bytes) (finding_of said)
finds_by bytes (Ok spec) a = (subst (λ (d : Result RawSpec ReadFault). JudgesSaid d None) (sym a.says) (None, a.accepted, refl), a.raw, a.says, a.is_spec.name)
finds_by bytes (Err refusal) judged = judged

-- what isn't read is no text of a specification
pub no_text : (said : Result RawSpec ReadFault) (refusal : Refusal) → said ≡ Err NotToml → refusal ≡ placeless SpecText → JudgesSaid said (Some refusal)
no_text said refusal is e =
    subst (λ (r : Refusal). JudgesSaid said (Some r)) (sym e) (subst (λ (s : Result RawSpec ReadFault). JudgesSaid s (Some (placeless SpecText))) (sym is) refl)
