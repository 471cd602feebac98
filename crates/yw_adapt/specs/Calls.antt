-- How the calls of the system are counted.
use Rattle.std.specs.Prelude.{◌≡◌, ℕ, Result, MatchResult}
use Rattle.yw_adapt.specs.declared.calls.Calls.{Calls}
use Rattle.yw_outside.specs.Causes.{HasCause, Rose}
use Rattle.yw_outside.specs.Counts.{one_more}

-- one failure more where this failed, and else no more
pub record Counted {T E : Type 0} (before now : ℕ) (result : Result T E) : Type 0 where
  pub one : MatchResult result (λ _. now ≡ before) (λ _. now ≡ one_more before)
  pub cause : HasCause before now result

-- at least one call was made, and one has failed if this failed
pub record Counts {T E : Type 0} (old new : Calls) (result : Result T E) : Type 0 where
  pub made : Rose old.made new.made
  pub failed : Counted old.failed new.failed result
