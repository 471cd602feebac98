-- What items of a task are given as they come, and what is found first that keeps them from coming.
use Rattle.std.specs.Prelude.{ℕ, ◌+◌, ◌≡◌, Bool, List, [], Option, Some, None, Vec, codes, find, is_none, length, map, nat_lt, not, option_map, unwrap_or, if◌then◌else◌}
use Rattle.std.specs.Option.{option_or}
use Rattle.std.specs.declared.alloc.Global.{Global}
use Rattle.yw_base.specs.Identity.{number_end}
use Rattle.yw_base.specs.declared.value.Value.{Value}
use Rattle.yw_base.specs.declared.value.Value.TheVariants as values
use Rattle.yw_expr.specs.Meaning.{val}
use Rattle.yw_expr.specs.Tree.{Tree}
use Rattle.yw_spec.specs.declared.task.Param.{Param}
use Rattle.yw_spec.specs.declared.task.Task.{Task}
use Rattle.yw_state.specs.Broken.{placed, placeless}
use Rattle.yw_state.specs.Options.{all_of, is_some_and}
use Rattle.yw_state.specs.Passing.{elements_for, entry_values, given_values, within_bounds}
use Rattle.yw_state.specs.Values.{Row}
use Rattle.yw_state.specs.declared.rule.Refusal.{Refusal}
use Rattle.yw_state.specs.declared.rule.Rule.{Rule}
use Rattle.yw_state.specs.declared.rule.Rule.TheVariants as rules

-- the parameter has an expression, which is undefined over these values
abbrev pub lacks_value : Row → Param → Bool
lacks_value row p = is_some_and p.value (λ e. is_none (val e row))

-- the name of the first such parameter
abbrev pub undefined_param : Task → Row → Option (List ℕ)
undefined_param t row = option_map (λ (p : Param). p.name) (find (lacks_value row) t.ins)

-- `each`, or else that name
abbrev pub undefined_entry : Task → Row → Option (List ℕ)
undefined_entry t row = if is_none (elements_for t.many row) then Some (codes "each") else undefined_param t row

-- the elements of a list
abbrev pub elements : Value → List Value
elements (values.Ints ns) = map values.Int ns
elements (values.Texts ts) = map values.Text ts
elements v = []

-- the value of the expression, or where there is none the element
abbrev pub value_or : Row → Option Value → Option Tree → Option Value
value_or row element None = element
value_or row element (Some e) = val e row

-- what a parameter is given for an element
abbrev pub given_value : Row → Option Value → Param → Option Value
given_value row element p = value_or row element p.value

-- what items are given for these elements
abbrev pub rows_for : Task → Row → List (Option Value) → Option (List Row)
rows_for t row es = all_of (map (given_values t row) es)

-- these rows are what items are given; or it is undefined
abbrev pub AreRows : Option (List Row) → Option (Vec Row Global) → Type 0
AreRows given None = given ≡ None
AreRows given (Some rows) = given ≡ Some rows.items

-- what each item is given that an entry makes
abbrev pub entry_rows : Task → Row → List Row
entry_rows t row = unwrap_or (entry_values t row) []

-- the rule that so many items break, numbered from first on
abbrev pub count_rule : Task → ℕ → ℕ → Option Rule
count_rule t first count =
    if not (within_bounds t.many count) then Some rules.Count else (if nat_lt number_end (first + count) then Some rules.Numbers else None)

-- an expression is undefined, or else so many items can't come
abbrev pub entry_fault : Task → Row → ℕ → Option Refusal
entry_fault t row first =
    option_or (option_map (placed rules.Mapping) (undefined_entry t row)) (option_map placeless (count_rule t first (length (entry_rows t row))))
