-- Names in scope.
use Rattle.std.specs.Prelude.{ℕ, List, Option, map, position, slice_get, option_and_then, option_map}
use Rattle.std.specs.Str.{bytes_eq}
use Rattle.yw_base.specs.declared.value.Sort.{Sort}
use Rattle.yw_expr.specs.declared.scope.Binding.{Binding}
use Rattle.yw_expr.specs.Tree.{Tree, variable}

abbrev pub binding : List ℕ → Sort → Binding
binding name sort = record { name = name; sort = sort }

-- the sorts of a row's values
abbrev pub sorts_of : List Binding → List Sort
sorts_of scope = map (λ (b : Binding). b.sort) scope

-- the place of a name, which is that of the first binding with it
abbrev pub place_in : List Binding → List ℕ → Option ℕ
place_in scope name = position (λ (b : Binding). bytes_eq b.name name) scope

abbrev pub variable_at : List Binding → ℕ → Option Tree
variable_at scope k = option_map (λ (b : Binding). variable k b.sort) (slice_get scope k)

-- what a name stands for
abbrev pub variable_in : List Binding → List ℕ → Option Tree
variable_in scope name = option_and_then (variable_at scope) (place_in scope name)
