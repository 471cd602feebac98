-- What is told of a file's bytes before and after a call.
use Rattle.std.specs.Prelude.{ℕ, ◌≤◌, List, length, None, Some}
use Rattle.std.specs.declared.option.Option.{Option}
use Rattle.yw_outside.specs.Image.{Torn}

-- Outside of a range of n bytes at this offset nothing changed, if the range didn't begin past the end. What was told is told still.
abbrev pub TornAt : ℕ → ℕ → Option (List ℕ) → Option (List ℕ) → Type 0
TornAt at n None None = Unit {0}
TornAt at n None (Some new) = ⊥
TornAt at n (Some old) None = ⊥
TornAt at n (Some old) (Some new) = at ≤ length old → Torn at n old new

-- what is told of an open file, and nothing where none is open
abbrev pub told : {F : Type 0} → (F → Option (List ℕ)) → Option F → Option (List ℕ)
told holds None = None
told holds (Some file) = holds file
