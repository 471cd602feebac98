-- What a crash may leave, now and at the moments since an earlier one.
use Rattle.std.specs.Prelude.{◌≡◌, ◌⊎◌, ℕ, ◌≤◌}
use Rattle.yw_outside.specs.Image.{file_in}
use Rattle.yw_outside.specs.declared.desk.File.{File}
use Rattle.yw_outside.specs.declared.desk.File.TheVariants.{A, B}
use Rattle.yw_outside.specs.declared.image.Image.{Image}

-- a step from something that a crash might have left before
abbrev pub After : (Image → Image → Type 0) → (Image → Type 0) → Image → Type 0
After step old c = (d : Image) × old d × step d c

-- A call takes this step, at once or in parts, and a crash within it leaves what a part of it made.
pub record Passes (step : Image → Image → Type 0) (before now : ℕ) (past since : ℕ → Image → Type 0) (old new : Image → Type 0) : Type 0 where
  pub later : before ≤ now
  pub crash : (c : Image) → new c → After step old c
  pub within : (t : ℕ) (c : Image) → t ≤ before → since t c → past t c ⊎ After step old c
  pub keeps : (t : ℕ) (c : Image) → t ≤ before → past t c → since t c

-- A call of a desk that takes this step. The desk was `old` and is `new`.
abbrev pub Goes : {D : Type 0} → (D → ℕ) → (D → ℕ → Image → Type 0) → (D → Image → Type 0) → (Image → Image → Type 0) → D → D → Type 0
Goes moment left_since may_leave step old new =
    Passes step (moment old) (moment new) (left_since old) (left_since new) (may_leave old) (may_leave new)

-- a crash leaves of this file what a read gives
abbrev pub IsDurable : File → Image → (Image → Type 0) → Type 0
IsDurable f state outcomes = (c : Image) → outcomes c → file_in f c ≡ file_in f state

-- nothing is pending
pub record IsSettled (state : Image) (outcomes : Image → Type 0) : Type 0 where
  pub a : IsDurable A state outcomes
  pub b : IsDurable B state outcomes
