-- Values that are passed by name, from what an item was given or from what a net has.
use Rattle.std.specs.Option.{option_or}
use Rattle.std.specs.Prelude.{◌&&◌, Bool, List, Option, filter, find, option_and_then, option_map, unwrap_or, zip, ℕ}
use Rattle.std.specs.Str.{bytes_eq}
use Rattle.yw_base.specs.Usages.{goes_out}
use Rattle.yw_base.specs.Values.{zero_of}
use Rattle.yw_base.specs.declared.value.Value.{Value}
use Rattle.yw_nest.specs.Values.{var_value}
use Rattle.yw_spec.specs.declared.spec.Var.{Var}
use Rattle.yw_spec.specs.declared.task.Param.{Param}
use Rattle.yw_state.specs.ByName.{Valuation, of_sort, param_value}
use Rattle.yw_state.specs.Values.{Row}
use Rattle.yw_worklet.specs.declared.names.Source.{Source}
use Rattle.yw_worklet.specs.declared.names.Source.TheVariants as sources

-- what has a value under which name
abbrev pub named : Source → Valuation
named (sources.Given ps vs) = param_value ps.now vs.now
named (sources.Held xs vs) = var_value xs.now vs.now

-- ---- what an item has made

-- of what it was given alone
abbrev pub given_value : Valuation → Param → Value
given_value given p = unwrap_or (option_and_then (of_sort p.sort) (given p.name)) (zero_of p.sort)

-- the variable has this name, and its value is handed back
abbrev pub is_handed_back : List ℕ → Var → Bool
is_handed_back name x = goes_out x.usage && bytes_eq x.name name

-- of the variables whose values are handed back
abbrev pub handed_back : List Var → Row → Valuation
handed_back xs vs name = option_map (λ e. e.1) (find (λ (e : Var × Value). bytes_eq e.0.name name) (filter (λ (e : Var × Value). goes_out e.0.usage) (zip xs vs)))

-- what a worklet hands back, else what the item was given
abbrev pub returned : Valuation → Valuation → Param → Option Value
returned back given p = option_or (option_and_then (of_sort p.sort) (back p.name)) (option_and_then (of_sort p.sort) (given p.name))

abbrev pub returned_value : Valuation → Valuation → Param → Value
returned_value back given p = unwrap_or (returned back given p) (zero_of p.sort)
