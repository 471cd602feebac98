-- The values of an item, without the state in which it stands. A law says that they are those of the definitions.
use Rattle.std.specs.Prelude.{ℕ, List, [], ◌∷◌, ◌++◌, map, Option, None, unwrap_or, if◌then◌else◌}
use Rattle.std.specs.Option.{option_or}
use Rattle.yw_base.specs.Values.{zero_of}
use Rattle.yw_base.specs.declared.value.Sort.TheVariants as sorts
use Rattle.yw_base.specs.declared.value.Value.{Value}
use Rattle.yw_spec.specs.declared.task.Param.{Param}
use Rattle.yw_spec.specs.declared.task.Task.{Task}
use Rattle.yw_state.specs.ByName.{param_value}
use Rattle.yw_state.specs.Values.{Row}
use Rattle.yw_state.specs.Words.{is_completed}
use Rattle.yw_state.specs.declared.part.Stage.{Stage}

-- what stands for the value of each sort
abbrev pub zeros : List Value
zeros = map zero_of (sorts.Bool ∷ sorts.Int ∷ sorts.Text ∷ sorts.Ints ∷ sorts.Texts ∷ [])

-- what is made under a name once the item is completed, else what is given
abbrev pub said_value : Task → Stage → Row → Row → List ℕ → Option Value
said_value t stage given made name = option_or (if is_completed stage then param_value t.outs made name else None) (param_value t.ins given name)

-- else the zero of the sort
abbrev pub value_of : Task → Stage → Row → Row → Param → Value
value_of t stage given made p = unwrap_or (said_value t stage given made p.name) (zero_of p.sort)

abbrev pub values_of : Task → Stage → Row → Row → Row
values_of t stage given made = map (value_of t stage given made) (t.ins ++ t.outs)
