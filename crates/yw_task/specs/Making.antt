-- What the items of a task made together, read off its list of items, and what is kept of it.
use Rattle.std.specs.Prelude.{◌≤◌, ℕ, ℤ, Bool, true, false, List, [], ◌∷◌, Option, Some, None, filter, map, option_and_then, option_map, slice_get, slice_set, unwrap_or, if◌then◌else◌}
use Rattle.std.specs.List.{All, enumerate_from, filter_map}
use Rattle.yw_base.specs.Values.{zero_of}
use Rattle.yw_base.specs.declared.value.Sort.{Sort}
use Rattle.yw_base.specs.declared.value.Sort.TheVariants as sorts
use Rattle.yw_base.specs.declared.value.Value.{Value}
use Rattle.yw_base.specs.declared.value.Value.TheVariants as values
use Rattle.yw_expr.specs.Meaning.{val}
use Rattle.yw_spec.specs.declared.task.Assign.{Assign}
use Rattle.yw_spec.specs.declared.task.Many.{Many}
use Rattle.yw_spec.specs.declared.task.Param.{Param}
use Rattle.yw_spec.specs.declared.task.Task.{Task}
use Rattle.yw_state.specs.After.{count_on}
use Rattle.yw_state.specs.Allowed.{most_tokens}
use Rattle.yw_state.specs.Passing.{int_in, text_in}
use Rattle.yw_state.specs.Values.{Row}
use Rattle.yw_state.specs.Words.{is_completed}
use Rattle.yw_tree.specs.declared.Node.{Node, out-Node}

-- ---- what they made

-- what those have made that are completed
abbrev pub rows_made : List Node → List Row
rows_made ns = map (λ (n : Node). (out-Node n).made) (filter (λ (n : Node). is_completed (out-Node n).stage) ns)

-- what an item that is completed has made of the parameter with this number
abbrev pub made_by : ℕ → Node → Option Value
made_by k n = if is_completed (out-Node n).stage then slice_get (out-Node n).made k else None

-- what the items have made of it, in order of identity
abbrev pub column : ℕ → List Node → List Value
column k ns = filter_map (made_by k) ns

-- what an item that is completed has made of the parameter, if that is a whole number, or a text
abbrev pub int_by : ℕ → Node → Option ℤ
int_by k n = option_and_then int_in (made_by k n)

abbrev pub text_by : ℕ → Node → Option (List ℕ)
text_by k n = option_and_then text_in (made_by k n)

abbrev pub is_text : Sort → Bool
is_text sorts.Text = true
is_text sort = false

-- the list of what the items have made of a parameter of this sort
abbrev pub listed : Sort → ℕ → List Node → Value
listed sort k ns = if is_text sort then values.Texts (filter_map (text_by k) ns) else values.Ints (filter_map (int_by k) ns)

abbrev pub first_or : Value → List Value → Value
first_or other [] = other
first_or other (v ∷ vs) = v

-- of a task that runs over a list the list of the values, of another the value of its item
abbrev pub out_value : Option Many → Sort → ℕ → List Node → Value
out_value (Some m) sort k ns = listed sort k ns
out_value None sort k ns = first_or (zero_of sort) (column k ns)

-- of the parameters from number k on
abbrev pub outs_from : Task → List Node → ℕ → List Param → Row
outs_from t ns k ps = map (λ (e : ℕ × Param). out_value t.many e.1.sort e.0 ns) (enumerate_from k ps)

-- ---- what is assigned

-- over this row; where it is undefined the variable stays
abbrev pub assigned : Row → Row → Assign → Row
assigned row vals a = unwrap_or (option_map (slice_set vals a.var) (val a.value row)) vals

-- ---- tokens

-- none of these places has more tokens than a place may have
abbrev pub AreFew : List ℕ → List ℕ → Type 0
AreFew marks places = All (λ c. count_on marks c ≤ most_tokens) places
