-- Values that are passed by name, one at a time.
use Rattle.std.specs.Prelude.{find, if◌then◌else◌, option_and_then, option_map, unwrap_or, List, zip}
use Rattle.std.specs.Str.{bytes_eq}
use Rattle.yw_base.specs.Usages.{comes_in}
use Rattle.yw_base.specs.Values.{zero_of}
use Rattle.yw_base.specs.declared.value.Value.{Value}
use Rattle.yw_spec.specs.declared.spec.Var.{Var}
use Rattle.yw_spec.specs.declared.task.Param.{Param}
use Rattle.yw_state.specs.ByName.{Valuation, of_sort}
use Rattle.yw_state.specs.Values.{Row}

-- the value of the variable of a name
abbrev pub var_value : List Var → Row → Valuation
var_value xs vs name = option_map (λ e. e.1) (find (λ (e : Var × Value). bytes_eq e.0.name name) (zip xs vs))

-- what a variable has as its net begins
abbrev pub begins_with : Valuation → Var → Value
begins_with source x = if comes_in x.usage then unwrap_or (option_and_then (of_sort x.sort) (source x.name)) x.init else x.init

-- what an item makes of a parameter, by the variables of its child net
abbrev pub made_value : List Var → Row → Param → Value
made_value xs vs p = unwrap_or (var_value xs vs p.name) (zero_of p.sort)
