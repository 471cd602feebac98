-- The values that a command gives, read against what is wanted. A value is of the sort that is wanted, where the empty list is of both
-- sorts of lists. The rules are our own.
use Rattle.std.specs.Prelude.{ℕ, ◌&&◌, Bool, not, List, [], ◌∷◌, map, filter, find, Option, Some, None, is_some, is_none, option_map, option_and_then, unwrap_or, if◌then◌else◌}
use Rattle.std.specs.Option.{option_or}
use Rattle.std.specs.List.{list_any}
use Rattle.std.specs.Str.{bytes_eq}
use Rattle.yw_base.specs.Values.{may_hold, meant}
use Rattle.yw_base.specs.declared.value.Sort.{Sort}
use Rattle.yw_base.specs.declared.value.Value.{Value}
use Rattle.yw_spec.specs.declared.spec.Var.{Var}
use Rattle.yw_spec.specs.declared.task.Param.{Param}
use Rattle.yw_spec.specs.declared.task.Task.{Task}
use Rattle.yw_state.specs.Allowed.{element_param}
use Rattle.yw_base.specs.Order.{lesser}
use Rattle.yw_base.specs.Usages.{comes_in}
use Rattle.yw_state.specs.Options.{all_of}
use Rattle.yw_state.specs.Values.{Row}
use Rattle.yw_state.specs.declared.command.Given.{Given}

abbrev if_fitting : Sort → Value → Option Value
if_fitting sort v = if may_hold sort v then Some v else None

-- as a value of this sort, if it is one
abbrev pub as_sort : Sort → Option Value → Option Value
as_sort sort v = option_and_then (λ x. if_fitting sort (meant sort x)) v

-- the value that is given under a name
abbrev pub given_under : List Given → List ℕ → Option Value
given_under gs name = option_and_then (λ (g : Given). g.value) (find (λ (g : Given). bytes_eq g.name name) gs)

-- the least in byte order, where there are names
abbrev pub least : List (List ℕ) → Option (List ℕ)
least [] = None
least (name ∷ names) = Some (lesser name (least names))

-- the first name in byte order whose value fails the test
abbrev pub first_failing : (Given → Bool) → List Given → Option (List ℕ)
first_failing p gs = least (map (λ (g : Given). g.name) (filter (λ g. not (p g)) gs))

-- ---- launch

abbrev pub launch_value : List Given → Var → Value
launch_value gs x = if comes_in x.usage then unwrap_or (as_sort x.sort (given_under gs x.name)) x.init else x.init

-- a variable into which a value comes has the one that is given, and any other its own first value
abbrev pub launch_values : List Var → List Given → Row
launch_values xs gs = map (launch_value gs) xs

abbrev pub is_wanted : List Var → Given → Bool
is_wanted xs g = list_any (λ (x : Var). bytes_eq x.name g.name && comes_in x.usage && is_some (as_sort x.sort g.value)) xs

-- the first name that no such variable has, or whose value is of another sort
abbrev pub unwanted : List Var → List Given → Option (List ℕ)
unwanted xs gs = first_failing (is_wanted xs) gs

-- ---- complete

abbrev pub made_value : List Given → Param → Option Value
made_value gs p = as_sort p.sort (given_under gs p.name)

-- the values of all parameters, or nothing where one lacks
abbrev pub made_values : List Param → List Given → Option Row
made_values ps gs = all_of (map (made_value gs) ps)

abbrev pub lacking : List Param → List Given → Option (List ℕ)
lacking ps gs = option_map (λ (p : Param). p.name) (find (λ p. is_none (made_value gs p)) ps)

abbrev unknown : List Param → List Given → Option (List ℕ)
unknown ps gs = first_failing (λ g. list_any (λ (p : Param). bytes_eq p.name g.name) ps) gs

-- the first parameter that lacks or has another sort, else the first name that no parameter has
abbrev pub misfit : List Param → List Given → Option (List ℕ)
misfit ps gs = option_or (lacking ps gs) (unknown ps gs)

-- ---- add

-- as the element that an item is given
abbrev pub element_value : Task → Option Value → Option Value
element_value t value = option_and_then (λ (p : Param). as_sort p.sort value) (element_param t)
