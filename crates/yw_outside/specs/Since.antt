-- What a crash may leave since an earlier state of a desk, and which calls have failed since. The desk was `old` and is `new`.
use Rattle.std.specs.Prelude.{◌≡◌, ◌⊎◌, ℕ, ◌≤◌, Result}
use Rattle.yw_outside.specs.Causes.{HasCause}
use Rattle.yw_outside.specs.declared.desk.Desk.{Ghosts}
use Rattle.yw_outside.specs.declared.image.Image.{Image}

-- A crash at any moment since old leaves what has P.
pub record LeavesOnly {D : Type 0} (g : Ghosts D) (old new : D) (P : Image → Type 0) : Type 0 where
  pub later : g.moment old ≤ g.moment new
  pub each : (c : Image) → g.left_since new (g.moment old) c → P c
  -- for a run that began earlier
  pub before : (t : ℕ) (c : Image) → t ≤ g.moment old → g.left_since new t c → g.left_since old t c ⊎ P c

-- no call has failed
pub record NoneFailed {D : Type 0} (g : Ghosts D) (old new : D) : Type 0 where
  pub disk : g.disk_faults new ≡ g.disk_faults old
  pub say : g.say_faults new ≡ g.say_faults old

-- Calls of the files, with their answer: it is no Ok where one of them failed. No say has failed, and the desk tells as it did.
pub record OfFiles {D T E : Type 0} (g : Ghosts D) (old new : D) (result : Result T E) : Type 0 where
  pub tells : g.tells new ≡ g.tells old
  pub disk : HasCause (g.disk_faults old) (g.disk_faults new) result
  pub say : g.say_faults new ≡ g.say_faults old
