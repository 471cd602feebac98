-- Rows of values, and which values are the same. Our own.
use Rattle.std.specs.Prelude.{Bool, false, not, List, if◌then◌else◌}
use Rattle.std.specs.Cmp.Lexicographic.{pointwise}
use Rattle.std.specs.Ordering.{int_eq}
use Rattle.std.specs.Str.{bytes_eq}
use Rattle.yw_base.specs.declared.value.Value.{Value}
use Rattle.yw_base.specs.declared.value.Value.TheVariants as values

-- values of variables or parameters, by their numbers
abbrev pub Row : Type 0
Row = List Value

abbrev pub same_value : Value → Value → Bool
same_value (values.Bool a) (values.Bool b) = if a then b else not b
same_value (values.Int a) (values.Int b) = int_eq a b
same_value (values.Text a) (values.Text b) = bytes_eq a b
same_value (values.Ints a) (values.Ints b) = pointwise int_eq a b
same_value (values.Texts a) (values.Texts b) = pointwise bytes_eq a b
same_value v w = false
