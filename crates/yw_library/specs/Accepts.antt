-- How what is found of a text that is to be loaded is answered.
use Rattle.std.specs.Prelude.{◌≡◌, Option, Some, None, Result, Ok, Err}
use Rattle.yw_read.specs.declared.raw.ReadFault.{ReadFault}
use Rattle.yw_read.specs.declared.raw.ReadFault.TheVariants as reads
use Rattle.yw_check.specs.declared.fault.CheckFault.{CheckFault}
use Rattle.yw_check.specs.declared.fault.CheckFault.TheVariants as checks
use Rattle.yw_state.specs.Broken.{placeless}
use Rattle.yw_state.specs.declared.rule.Refusal.{Refusal}
use Rattle.yw_state.specs.declared.rule.Rule.TheVariants.{SpecText, SpecShape, SpecCheck}
use Rattle.yw_library.specs.declared.fault.LibraryFault.{LibraryFault}
use Rattle.yw_library.specs.declared.fault.LibraryFault.TheVariants as faults

-- ---- faults

-- of a text that isn't read
abbrev pub unread : ReadFault → LibraryFault
unread reads.NotToml = faults.Refused (placeless SpecText)
unread (reads.Shape path) = faults.Refused (record { rule = SpecShape; at = path })
unread reads.Memory = faults.Memory

-- of a document that isn't accepted
abbrev pub unchecked : CheckFault → LibraryFault
unchecked (checks.Broken number at) = faults.Refused (record { rule = SpecCheck; at = at })
unchecked checks.Memory = faults.Memory

-- ---- answers

-- this holds of the refusal, where it is one
abbrev pub IfRefused : {A : Type 0} → Result A LibraryFault → (Refusal → Type 0) → Type 0
IfRefused (Ok x) P = Unit {0}
IfRefused (Err (faults.Refused refusal)) P = P refusal
IfRefused (Err faults.Memory) P = Unit {0}

-- what is found is what is answered, unless memory ran out
abbrev pub Answers : {A : Type 0} → Result A LibraryFault → Option Refusal → Type 0
Answers (Ok x) found = found ≡ None
Answers (Err (faults.Refused refusal)) found = found ≡ Some refusal
Answers (Err faults.Memory) found = Unit {0}
