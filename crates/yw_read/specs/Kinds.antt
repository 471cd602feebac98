-- The kinds of values that keys hold: what a value says, if it is of the kind.
use Rattle.std.specs.Prelude.{ℕ, List, [], ◌∷◌, Option, Some, None, option_map, option_and_then, codes, if◌then◌else◌}
use Rattle.std.specs.Str.{bytes_eq}
use Rattle.toml.specs.Data.{Data, Items, no_items, item, as_str, as_integer, as_bool, as_array}
use Rattle.yw_base.specs.Values.{is_small}
use Rattle.yw_base.specs.declared.value.Sort.{Sort}
use Rattle.yw_base.specs.declared.value.Sort.TheVariants as sorts
use Rattle.yw_base.specs.declared.value.Value.{Value}
use Rattle.yw_base.specs.declared.value.Value.TheVariants as values
use Rattle.yw_read.specs.declared.raw.RawFlow.{RawFlow}
use Rattle.yw_base.specs.declared.gate.Gate.{Gate}
use Rattle.yw_base.specs.declared.gate.Gate.TheVariants as gates
use Rattle.yw_read.specs.declared.raw.RawKind.{RawKind}
use Rattle.yw_read.specs.declared.raw.RawKind.TheVariants as kinds
use Rattle.yw_base.specs.declared.usage.Usage.{Usage}
use Rattle.yw_base.specs.declared.usage.Usage.TheVariants as usages

-- a list whose items are all of a kind
abbrev pub each_of : {A : Type 0} → (Data → Option A) → Items → Option (List A)
each_of kind no_items = Some []
each_of kind (item d ds) = option_and_then (λ x. option_map (λ xs. x ∷ xs) (each_of kind ds)) (kind d)

abbrev pub list_of : {A : Type 0} → (Data → Option A) → Data → Option (List A)
list_of kind d = option_and_then (each_of kind) (as_array d)

abbrev pub texts_of : Data → Option (List (List ℕ))
texts_of = list_of as_str

-- a list of two texts
abbrev pub flow_between : Option (List ℕ) → Option (List ℕ) → Option RawFlow
flow_between (Some from) (Some to) = Some (record { from = from; to = to })
flow_between (Some from) None = None
flow_between None to = None

abbrev pub flow_in : Items → Option RawFlow
flow_in no_items = None
flow_in (item from no_items) = None
flow_in (item from (item to no_items)) = flow_between (as_str from) (as_str to)
flow_in (item from (item to (item next ds))) = None

abbrev pub flow_of : Data → Option RawFlow
flow_of d = option_and_then flow_in (as_array d)

abbrev pub flows_of : Data → Option (List RawFlow)
flows_of = list_of flow_of

-- a text that is one of the words
abbrev pub one_of : {A : Type 0} → (List ℕ → Option A) → Data → Option A
one_of words d = option_and_then words (as_str d)

abbrev pub sort_words : List ℕ → Option Sort
sort_words word =
    if bytes_eq word (codes "bool") then Some sorts.Bool else
    if bytes_eq word (codes "int") then Some sorts.Int else
    if bytes_eq word (codes "text") then Some sorts.Text else
    if bytes_eq word (codes "ints") then Some sorts.Ints else
    if bytes_eq word (codes "texts") then Some sorts.Texts else None

abbrev pub usage_words : List ℕ → Option Usage
usage_words word =
    if bytes_eq word (codes "in") then Some usages.In else
    if bytes_eq word (codes "out") then Some usages.Out else
    if bytes_eq word (codes "inout") then Some usages.InOut else
    if bytes_eq word (codes "local") then Some usages.Local else None

abbrev pub kind_words : List ℕ → Option RawKind
kind_words word =
    if bytes_eq word (codes "atomic") then Some kinds.Atomic else
    if bytes_eq word (codes "empty") then Some kinds.Empty else
    if bytes_eq word (codes "sub") then Some kinds.Sub else None

abbrev pub gate_words : List ℕ → Option Gate
gate_words word =
    if bytes_eq word (codes "and") then Some gates.And else
    if bytes_eq word (codes "xor") then Some gates.Xor else
    if bytes_eq word (codes "or") then Some gates.Or else None

-- a value of a sort, whatever its size
abbrev pub any_value : Sort → Data → Option Value
any_value sorts.Bool d = option_map values.Bool (as_bool d)
any_value sorts.Int d = option_map values.Int (as_integer d)
any_value sorts.Text d = option_map values.Text (as_str d)
any_value sorts.Ints d = option_map values.Ints (list_of as_integer d)
any_value sorts.Texts d = option_map values.Texts (list_of as_str d)

abbrev pub if_small : Value → Option Value
if_small value = if is_small value then Some value else None

-- a value of a sort, within the limits
abbrev pub small_value : Sort → Data → Option Value
small_value sort d = option_and_then if_small (any_value sort d)
