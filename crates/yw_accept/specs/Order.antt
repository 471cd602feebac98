-- The first of some demands that isn't met, with what is named for it.
use Rattle.std.specs.Prelude.{◌≡◌, ◌⊎◌, List, [], ◌∷◌, ◌++◌, Option, Some, None}
use Rattle.yw_accept.specs.declared.broken.Broken.{Broken}

-- A check is a relation to what it finds: nothing, or one fault.
abbrev pub Check : Type 1
Check = Option Broken → Type 0

-- one demand, and the fault where it isn't met
abbrev pub Demand : Type 0 → Broken → Option Broken → Type 0
Demand holds fault None = holds
Demand holds fault (Some found) = (holds → ⊥) × (found ≡ fault)

-- what the first finds, and only where it finds nothing what the second does
abbrev pub Then : Check → Check → Option Broken → Type 0
Then first second None = first None × second None
Then first second (Some found) = first (Some found) ⊎ first None × second (Some found)

abbrev pub Nothing : Option Broken → Type 0
Nothing found = found ≡ None

-- a check of each element, in order
abbrev pub InOrder : {A : Type 0} → (A → Check) → List A → Option Broken → Type 0
InOrder check [] = Nothing
InOrder check (x ∷ xs) = Then (check x) (InOrder check xs)

-- a check of each element beside those before it, in order, where `seen` stand before the first
abbrev pub InTurn : {A : Type 0} → (List A → A → Check) → List A → List A → Option Broken → Type 0
InTurn check seen [] = Nothing
InTurn check seen (x ∷ xs) = Then (check seen x) (InTurn check (seen ++ x ∷ []) xs)
