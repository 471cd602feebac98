-- Values and their sorts, and how large a value may be.
use Rattle.std.specs.Prelude.{ℕ, pos, ◌&&◌, ◌||◌, Bool, true, false, List, [], length, nat_le, if◌then◌else◌}
use Rattle.std.specs.List.{list_all}
use Rattle.yw_base.specs.declared.value.Sort.{Sort}
use Rattle.yw_base.specs.declared.value.Sort.TheVariants as sorts
use Rattle.yw_base.specs.declared.value.Val.{Val}
use Rattle.yw_base.specs.declared.value.Val.TheVariants as vals
use Rattle.yw_base.specs.declared.value.Value.{Value}
use Rattle.yw_base.specs.declared.value.Value.TheVariants as values

abbrev pub sort_of : Value → Sort
sort_of (values.Bool b) = sorts.Bool
sort_of (values.Int n) = sorts.Int
sort_of (values.Text t) = sorts.Text
sort_of (values.Ints ns) = sorts.Ints
sort_of (values.Texts ts) = sorts.Texts

-- the value that is lent
abbrev pub value_of : Val → Value
value_of (vals.Bool b) = values.Bool b
value_of (vals.Int n) = values.Int n
value_of (vals.Text t) = values.Text t.now
value_of (vals.Ints ns) = values.Ints ns.now
value_of (vals.Texts ts) = values.Texts ts.now

abbrev pub has_sort : Value → Sort → Bool
has_sort (values.Bool b) sorts.Bool = true
has_sort (values.Int n) sorts.Int = true
has_sort (values.Text t) sorts.Text = true
has_sort (values.Ints ns) sorts.Ints = true
has_sort (values.Texts ts) sorts.Texts = true
has_sort value sort = false

-- the empty list comes from outside as one of numbers, and is one of texts where texts are wanted
abbrev pub is_no_texts : Sort → Value → Bool
is_no_texts sorts.Texts (values.Ints []) = true
is_no_texts sort value = false

-- what a value from outside means where one of this sort is wanted
abbrev pub meant : Sort → Value → Value
meant sort value = if is_no_texts sort value then values.Texts [] else value

-- a value from outside means one of the sort
abbrev pub fits : Value → Sort → Bool
fits value sort = has_sort value sort || is_no_texts sort value

abbrev pub most_text_bytes : ℕ
most_text_bytes = 4096

abbrev pub most_elements : ℕ
most_elements = 1000

abbrev pub is_short : List ℕ → Bool
is_short text = nat_le (length text) most_text_bytes

abbrev pub are_few : {A : Type 0} → List A → Bool
are_few xs = nat_le (length xs) most_elements

-- texts of at most 4,096 bytes, lists of at most 1,000 elements
abbrev pub is_small : Value → Bool
is_small (values.Bool b) = true
is_small (values.Int n) = true
is_small (values.Text t) = is_short t
is_small (values.Ints ns) = are_few ns
is_small (values.Texts ts) = are_few ts && list_all is_short ts

-- it is of the sort, and within the limits
abbrev pub may_hold : Sort → Value → Bool
may_hold sort v = has_sort v sort && is_small v

-- false, 0, the empty text, the empty list
abbrev pub zero_of : Sort → Value
zero_of sorts.Bool = values.Bool false
zero_of sorts.Int = values.Int (pos 0)
zero_of sorts.Text = values.Text []
zero_of sorts.Ints = values.Ints []
zero_of sorts.Texts = values.Texts []
