-- The values that JSON values stand for, and what is given under names. Our own.
use Rattle.std.specs.Prelude.{ℕ, ℤ, List, [], ◌∷◌, nat_le, Option, Some, None, option_map, option_and_then, if◌then◌else◌}
use Rattle.serde_json.specs.Data.{Data, null, boolean, number, string, array, object, Items, no_items, item, Members, no_members, member}
use Rattle.serde_json.specs.Events.{items_len}
use Rattle.serde_json.specs.Find.{as_i64, as_number, as_str}
use Rattle.yw_base.specs.Values.{is_short, most_elements}
use Rattle.yw_base.specs.declared.value.Value.{Value}
use Rattle.yw_base.specs.declared.value.Value.TheVariants as values
use Rattle.yw_state.specs.declared.command.Given.{Given}

-- a list whose items are all of a kind
abbrev pub each_of : {A : Type 0} → (Data → Option A) → Items → Option (List A)
each_of kind no_items = Some []
each_of kind (item d ds) = option_and_then (λ x. option_map (λ xs. x ∷ xs) (each_of kind ds)) (kind d)

abbrev pub if_short : List ℕ → Option (List ℕ)
if_short text = if is_short text then Some text else None

-- a whole number from -2^63 to 2^63 - 1
abbrev pub int_of : Data → Option ℤ
int_of d = option_and_then as_i64 (as_number d)

-- a text that isn't too long
abbrev pub short_of : Data → Option (List ℕ)
short_of d = option_and_then if_short (as_str d)

-- the first of two that is there
abbrev pub either_of : {A : Type 0} → Option A → Option A → Option A
either_of (Some x) other = Some x
either_of None other = other

-- whole numbers alone or texts alone; the empty list is one of whole numbers
abbrev pub list_value : Items → Option Value
list_value ds =
    if nat_le (items_len ds) most_elements
    then either_of (option_map values.Ints (each_of int_of ds)) (option_map values.Texts (each_of short_of ds))
    else None

-- the value for which a JSON value stands, if it has a sort
unfoldable pub value_in : Data → Option Value
value_in null = None
value_in (boolean b) = Some (values.Bool b)
value_in (number n) = option_map values.Int (as_i64 n)
value_in (string s) = option_map values.Text (if_short s)
value_in (array ds) = list_value ds
value_in (object ms) = None

-- what the members of an object give, each under its name
abbrev pub givens_in : Members → List Given
givens_in no_members = []
givens_in (member k d ms) = record { name = k; value = value_in d } ∷ givens_in ms
