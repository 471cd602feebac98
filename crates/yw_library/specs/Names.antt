-- The names of specifications by their numbers, which are those of their places in the library.
use Rattle.std.specs.Prelude.{ℕ, List, [], Option, Some, None, slice_get}
use Rattle.yw_library.specs.Holdings.{Holdings}
use Rattle.yw_state.specs.declared.loaded.Loaded.{Loaded}

abbrev pub name_in : Option Loaded → List ℕ
name_in None = []
name_in (Some l) = l.spec.name

-- the name of the specification with this number, and no bytes where there is none
abbrev pub names_of : Holdings → ℕ → List ℕ
names_of known k = name_in (slice_get known.specs k)
