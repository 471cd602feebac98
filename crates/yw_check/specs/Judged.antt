-- What is answered of a specification: the one that its document says, or the first check that fails.
use Rattle.std.specs.Prelude.{◌≡◌, Option, Some, None, Result, Ok, Err}
use Rattle.yw_spec.specs.declared.spec.Spec.{Spec}
use Rattle.yw_read.specs.declared.raw.RawSpec.{RawSpec}
use Rattle.yw_accept.specs.declared.broken.Broken.{Broken}
use Rattle.yw_accept.specs.Built.{IsSpec}
use Rattle.yw_accept.specs.Faults.{broken_text}
use Rattle.yw_accept.specs.Verdict.{IsVerdict}
use Rattle.yw_check.specs.declared.fault.CheckFault.{CheckFault}
use Rattle.yw_check.specs.declared.fault.CheckFault.TheVariants as faults

-- the fault of the first check that fails
abbrev pub fault_of : Broken → CheckFault
fault_of broken = faults.Broken broken.number (broken_text broken)

-- where no check fails the specification is the one that the document says; nothing is said where memory ran out
abbrev pub Judges : RawSpec → Result Spec CheckFault → Type 0
Judges raw (Ok spec) = IsVerdict raw None × IsSpec raw spec
Judges raw (Err (faults.Broken number at)) = (broken : Broken) × IsVerdict raw (Some broken) × (faults.Broken number at ≡ fault_of broken)
Judges raw (Err faults.Memory) = Unit {0}

-- what the checks find is what is answered, unless memory ran out
abbrev pub Answers : Result Spec CheckFault → Option Broken → Type 0
Answers (Ok spec) found = found ≡ None
Answers (Err (faults.Broken number at)) found = (broken : Broken) × (found ≡ Some broken) × (faults.Broken number at ≡ fault_of broken)
Answers (Err faults.Memory) found = Unit {0}
