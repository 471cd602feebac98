-- Values, variables and parameters, found by their names. Our own.
use Rattle.std.specs.Prelude.{◌≡◌, ◌&&◌, ℕ, Bool, not, List, [], ◌∷◌, Option, Some, None, find, is_none, is_some, filter, map, option_and_then, option_map, position, slice_get, unwrap_or, if◌then◌else◌}
use Rattle.std.specs.BTreeMap.{get_by_text}
use Rattle.std.specs.List.{list_any}
use Rattle.std.specs.Map.{update}
use Rattle.std.specs.Str.{bytes_eq}
use Rattle.yw_base.specs.Order.{lesser}
use Rattle.yw_base.specs.Usages.{comes_in}
use Rattle.yw_base.specs.declared.value.Value.{Value}
use Rattle.yw_given.specs.declared.numbers.Numbers.{Numbers}
use Rattle.yw_spec.specs.declared.spec.Var.{Var}
use Rattle.yw_spec.specs.declared.task.Param.{Param}
use Rattle.yw_state.specs.Given.{as_sort}
use Rattle.yw_state.specs.declared.command.Given.{Given}

-- ---- names with numbers

-- the number that a name has
abbrev pub number_of : Numbers → List ℕ → Option ℕ
number_of numbers name = get_by_text numbers.table name

-- this name has this number from now on
abbrev pub Puts : List ℕ → ℕ → Numbers → Numbers → Type 0
Puts name number old new = (other : List ℕ) → number_of new other ≡ update bytes_eq (number_of old) name (Some number) other

-- of those of a list that have a name, the first is found by its number
abbrev pub Finds : {A : Type 0} → (A → List ℕ → Bool) → List A → Numbers → Type 0
Finds has xs numbers = (name : List ℕ) → option_and_then (slice_get xs) (number_of numbers name) ≡ find (λ x. has x name) xs

-- a value that is given under the name
abbrev pub is_given_as : Given → List ℕ → Bool
is_given_as g name = bytes_eq g.name name

-- a variable of the name into which a value comes
abbrev pub comes_as : Var → List ℕ → Bool
comes_as x name = comes_in x.usage && bytes_eq x.name name

-- a parameter of the name
abbrev pub is_called : Param → List ℕ → Bool
is_called p name = bytes_eq p.name name

-- each variable is the first of its name
abbrev pub AreFirst : List Var → Type 0
AreFirst xs = (k : ℕ) (x : Var) → slice_get xs k ≡ Some x → position (λ (y : Var). bytes_eq y.name x.name) xs ≡ Some k

-- some parameter has its name
abbrev pub is_known : List Param → Given → Bool
is_known ps g = list_any (λ (p : Param). bytes_eq p.name g.name) ps
