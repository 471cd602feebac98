-- A check behind a check.
use Rattle.std.proofs.Common.{◌≡◌, Option, Some, None, refl}
use Rattle.yw_accept.specs.declared.broken.Broken.{Broken}
use Rattle.yw_accept.specs.Order.{Check, Then}
use Rattle.yw_accept.proofs.Loops.{then_second}

module _ (first second : Check) where
  -- the first finds nothing
  pub go : (found r : Option Broken) → first found → ((broken : Broken) → found ≡ Some broken → ⊥) → second r → Then first second r
  go None r h none g = then_second first second h r g
  go (Some broken) r h none g = absurd (none broken refl)
