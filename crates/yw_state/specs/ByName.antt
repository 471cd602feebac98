-- Values that are passed by name: to a child net, a worklet or a compensation as it begins, and back from it at its end. Passing by
-- name and sort is our own.
use Rattle.std.specs.Prelude.{ℕ, List, map, zip, filter, find, Option, Some, None, option_map, option_and_then, unwrap_or, if◌then◌else◌}
use Rattle.std.specs.Option.{option_or}
use Rattle.std.specs.Str.{bytes_eq}
use Rattle.yw_base.specs.Values.{has_sort, zero_of}
use Rattle.yw_base.specs.declared.value.Sort.{Sort}
use Rattle.yw_base.specs.declared.value.Value.{Value}
use Rattle.yw_spec.specs.declared.spec.Net.{Net}
use Rattle.yw_spec.specs.declared.spec.Var.{Var}
use Rattle.yw_spec.specs.declared.task.Param.{Param}
use Rattle.yw_state.specs.Identity.{Ident, is_case_ident}
use Rattle.yw_base.specs.Usages.{comes_in, goes_out}
use Rattle.yw_state.specs.State.{State, NetAt, ItemAt, net_at, item_at}
use Rattle.yw_state.specs.Values.{Row}

-- what has a value under which name
abbrev pub Valuation : Type 0
Valuation = List ℕ → Option Value

abbrev pub param_value : List Param → Row → Valuation
param_value ps vs name = option_map (λ e. e.1) (find (λ (e : Param × Value). bytes_eq e.0.name name) (zip ps vs))

abbrev value_among : List (Var × Value) → Valuation
value_among es name = option_map (λ e. e.1) (find (λ (e : Var × Value). bytes_eq e.0.name name) es)

-- the value, where it is of the sort
abbrev pub of_sort : Sort → Value → Option Value
of_sort sort v = if has_sort v sort then Some v else None

-- ---- what a net or an item has

abbrev pub var_named : NetAt → Valuation
var_named n = value_among (zip n.net.vars n.part.vals)

-- of the variables whose values are handed back
abbrev handed_back : NetAt → Valuation
handed_back n = value_among (filter (λ (e : Var × Value). goes_out e.0.usage) (zip n.net.vars n.part.vals))

abbrev pub given_named : ItemAt → Valuation
given_named x = param_value x.of_task.task.ins x.part.given

-- what a run at j hands to its compensation: a case's variables, or what an item was given
abbrev pub source_at : State → Ident → Valuation
source_at s j name =
    if is_case_ident j then option_and_then (λ n. var_named n name) (net_at s j) else option_and_then (λ x. given_named x name) (item_at s j)

-- ---- what a net begins with

abbrev begins_with : Valuation → Var → Value
begins_with source x = if comes_in x.usage then unwrap_or (option_and_then (of_sort x.sort) (source x.name)) x.init else x.init

-- a variable into which values come has the one of its name and sort, and any other its own first value
abbrev pub first_values : Valuation → Net → Row
first_values source net = map (begins_with source) net.vars

-- ---- what an item has made when its net is at its end

abbrev made_of : (Param → Option Value) → List Param → Row
made_of found ps = map (λ (p : Param). unwrap_or (found p) (zero_of p.sort)) ps

-- by a child net: the variables of the names
abbrev pub made_by_child : NetAt → ItemAt → Row
made_by_child n x = made_of (λ p. var_named n p.name) x.of_task.task.outs

abbrev given_of_sort : ItemAt → Param → Option Value
given_of_sort x p = option_and_then (of_sort p.sort) (given_named x p.name)

-- by a worklet: what it hands back, else what the item was given
abbrev pub made_by_worklet : NetAt → ItemAt → Row
made_by_worklet n x = made_of (λ p. option_or (option_and_then (of_sort p.sort) (handed_back n p.name)) (given_of_sort x p)) x.of_task.task.outs

-- by an exlet: what the item was given
abbrev pub made_of_given : ItemAt → Row
made_of_given x = made_of (given_of_sort x) x.of_task.task.outs
