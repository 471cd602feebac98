-- What sort an expression is wanted to have.
use Rattle.std.specs.Prelude.{◌≡◌, ℕ, List, Option, Some, None, find, option_map}
use Rattle.std.specs.Str.{bytes_eq}
use Rattle.yw_base.specs.declared.value.Sort.{Sort}
use Rattle.yw_expr.specs.declared.scope.Binding.{Binding}
use Rattle.yw_accept.specs.Scopes.{Is, IsList, element_of}
use Rattle.yw_check_sorts.specs.declared.spelling.WantedSort.{WantedSort}
use Rattle.yw_check_sorts.specs.declared.spelling.WantedSort.TheVariants.{Exactly, AnyList, ListOf, Any}

-- the sort is as wanted
abbrev pub IsWanted : WantedSort → Sort → Type 0
IsWanted (Exactly wanted) sort = Is wanted sort
IsWanted AnyList sort = IsList sort
IsWanted (ListOf element) sort = element_of sort ≡ Some element
IsWanted Any sort = Unit {0}

-- the sort of the values of a name, of the first such binding
abbrev pub sort_named : List Binding → List ℕ → Option Sort
sort_named bindings name = option_map (λ (b : Binding). b.sort) (find (λ (b : Binding). bytes_eq b.name name) bindings)

-- this sort; any, where there is none
abbrev pub wanted_by : Option Sort → WantedSort
wanted_by None = Any
wanted_by (Some sort) = Exactly sort
