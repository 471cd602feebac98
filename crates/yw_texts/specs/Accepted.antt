-- Which texts are accepted as specifications, and the first fault of the others. The three kinds of fault and their order
-- are our own.
use Rattle.std.specs.Prelude.{◌≡◌, ℕ, List, Option, Some, Result, Ok, Err, option_map, if◌then◌else◌}
use Rattle.std.specs.Str.{is_utf8}
use Rattle.yw_read.specs.Reading.{spec_in}
use Rattle.yw_read.specs.declared.raw.RawSpec.{RawSpec}
use Rattle.yw_read.specs.declared.raw.ReadFault.{ReadFault}
use Rattle.yw_read.specs.declared.raw.ReadFault.TheVariants.{NotToml, Shape, Memory}
use Rattle.yw_accept.specs.declared.broken.Broken.{Broken}
use Rattle.yw_accept.specs.Faults.{broken_text}
use Rattle.yw_accept.specs.Verdict.{IsVerdict}
use Rattle.yw_state.specs.declared.rule.Refusal.{Refusal}
use Rattle.yw_state.specs.declared.rule.Rule.TheVariants.{SpecText, SpecShape, SpecCheck}
use Rattle.yw_state.specs.Broken.{placed, placeless}

-- what a text says; bytes that aren't UTF-8 are no document
unfoldable pub document_in : List ℕ → Result RawSpec ReadFault
document_in text = if is_utf8 text then spec_in text else Err NotToml

abbrev pub check_refusal : Broken → Refusal
check_refusal broken = placed SpecCheck (broken_text broken)

-- what is found wrong with a document: the first check that fails, if one does
abbrev pub JudgesSaid : Result RawSpec ReadFault → Option Refusal → Type 0
JudgesSaid (Ok raw) found = (broken : Option Broken) × IsVerdict raw broken × (found ≡ option_map check_refusal broken)
JudgesSaid (Err NotToml) found = found ≡ Some (placeless SpecText)
JudgesSaid (Err (Shape path)) found = found ≡ Some (placed SpecShape path)
JudgesSaid (Err Memory) found = ⊥

-- the first fault of a text, or none where it is accepted
abbrev pub IsJudged : List ℕ → Option Refusal → Type 0
IsJudged text found = JudgesSaid (document_in text) found
