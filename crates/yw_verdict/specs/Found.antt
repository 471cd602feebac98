-- What is found of a text: the name of its specification, or why it isn't accepted.
use Rattle.std.specs.Prelude.{◌≡◌, ◌⊎◌, ◌<◌, ◌≤◌, ℕ, List, length, Bool, true, false, Some, None, Result, Ok, Err}
use Rattle.yw_accept.specs.Built.{IsSpec}
use Rattle.yw_accept.specs.Verdict.{IsVerdict}
use Rattle.yw_read.specs.declared.raw.RawSpec.{RawSpec}
use Rattle.yw_read.specs.declared.raw.ReadFault.{ReadFault}
use Rattle.yw_spec.specs.declared.spec.Spec.{Spec}
use Rattle.yw_state.specs.declared.rule.Refusal.{Refusal}
use Rattle.yw_state.specs.declared.rule.Rule.TheVariants.{LineTooLong}
use Rattle.yw_texts.specs.Accepted.{document_in, JudgesSaid}
use Rattle.yw_lines.specs.Lines.{line_limit}
use Rattle.yw_state.specs.Broken.{placeless}
use Rattle.yw_verdict.specs.declared.finding.Finding.{Finding}
use Rattle.yw_verdict.specs.declared.finding.Finding.TheVariants.{Accepted, Refused}

-- the most bytes of a text that is judged: as a line's
unfoldable pub text_limit : ℕ
text_limit = line_limit

-- of what a text says: the first fault, or the name where there is none
abbrev pub FindsSaid : Result RawSpec ReadFault → Finding → Type 0
FindsSaid said (Accepted name) = JudgesSaid said None × (raw : RawSpec) × (said ≡ Ok raw) × (name ≡ raw.name)
FindsSaid said (Refused refusal) = JudgesSaid said (Some refusal)

-- of what a text says: the specification where nothing is wrong, or the first fault
abbrev pub SaysSpec : Result RawSpec ReadFault → Result Spec Refusal → Type 0
SaysSpec said (Ok spec) = (raw : RawSpec) × (said ≡ Ok raw) × IsVerdict raw None × IsSpec raw spec
SaysSpec said (Err refusal) = JudgesSaid said (Some refusal)

-- what is found where a text says this specification, or this is wrong with it
abbrev pub finding_of : Result Spec Refusal → Finding
finding_of (Ok spec) = Accepted spec.name
finding_of (Err refusal) = Refused refusal

-- whether it is a yes
abbrev pub accepts : Finding → Bool
accepts (Accepted name) = true
accepts (Refused refusal) = false

-- the text isn't longer than what is judged
pub record IsJudgedWithin (limit : ℕ) (text : List ℕ) (finding : Finding) : Type 0 where
  pub within : length text ≤ limit
  pub finds : FindsSaid (document_in text) finding

-- the text is longer, and isn't looked into
pub record IsPast (limit : ℕ) (text : List ℕ) (finding : Finding) : Type 0 where
  pub past : limit < length text
  pub refused : finding ≡ Refused (placeless LineTooLong)

-- what is found of a text of which at most so many bytes are judged
abbrev pub IsFoundBy : ℕ → List ℕ → Finding → Type 0
IsFoundBy limit text finding = IsJudgedWithin limit text finding ⊎ IsPast limit text finding

-- what is found of a text
abbrev pub IsFound : List ℕ → Finding → Type 0
IsFound = IsFoundBy text_limit
