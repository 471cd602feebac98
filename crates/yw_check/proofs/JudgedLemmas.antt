-- What the checks find is what is answered.
use Rattle.std.proofs.Common.{◌≡◌, ◌⊎◌, inl, inr, Option, Some, Err, refl, sym, subst}
use Rattle.yw_accept.specs.declared.broken.Broken.{Broken}
use Rattle.yw_check.specs.declared.fault.CheckFault.{CheckFault}
use Rattle.yw_check.specs.declared.fault.CheckFault.TheVariants as faults
use Rattle.yw_check.specs.Judged.{Answers, fault_of}

pub answers_from : (fault : CheckFault) (broken : Broken) (found : Option Broken) → (fault ≡ faults.Memory) ⊎ (fault ≡ fault_of broken) → found ≡ Some broken → Answers (Err fault) found
answers_from fault broken found (inl e) is = let P : CheckFault → Type 0 = λ f. Answers (Err f) found in subst P (sym e) tt
answers_from fault broken found (inr e) is = let P : CheckFault → Type 0 = λ f. Answers (Err f) found in subst P (sym e) (broken, is, refl)
