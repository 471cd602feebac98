-- The numbers that names have.
use Rattle.std.specs.Prelude.{◌≡◌, ℕ, List, map, String, string_bytes, Option, Some, None, slice_get}
use Rattle.std.specs.Ordering.{nat_cmp}
use Rattle.std.specs.Cmp.Lexicographic.{slice_cmp}
use Rattle.std.specs.FinMap.{FinMap, from_entries, get}
use Rattle.std.specs.declared.alloc.Global.{Global}

abbrev pub NumberedNames : Type 0
NumberedNames = FinMap (slice_cmp nat_cmp) ℕ

abbrev pub by_bytes : List (String Global × ℕ) → List (List ℕ × ℕ)
by_bytes es = map (λ e. (string_bytes e.0, e.1)) es

abbrev pub numbers_of : List (String Global × ℕ) → NumberedNames
numbers_of es = from_entries {R = slice_cmp nat_cmp} (by_bytes es)

-- Each of a list is found under its name, by its number. So no two have one name.
pub record AreFound {A : Type 0} (named : A → List ℕ) (xs : List A) (numbers : NumberedNames) : Type 0 where
  pub found : (i : ℕ) (x : A) → slice_get xs i ≡ Some x → get numbers (named x) ≡ Some i

-- no one of the list has the name
abbrev pub NoneNamed : {A : Type 0} → (A → List ℕ) → List A → List ℕ → Type 0
NoneNamed {A} named xs name = (i : ℕ) (x : A) → slice_get xs i ≡ Some x → named x ≡ name → ⊥

-- the one of the list with this number has the name, or no one has it
abbrev pub IsNumberOf : {A : Type 0} → (A → List ℕ) → List A → List ℕ → Option ℕ → Type 0
IsNumberOf {A} named xs name (Some i) = (x : A) × (slice_get xs i ≡ Some x) × (named x ≡ name)
IsNumberOf named xs name None = NoneNamed named xs name
