-- What an expression is worth over a row of values, or that it is undefined, by cases on the tree.
use Rattle.std.specs.Prelude.{ℕ, Bool, true, false, not, ◌^◌, ℤ, pos, negsuc, neg_ℤ, ◌+ℤ◌, ◌-ℤ◌, ◌*ℤ◌, int_div, int_lt, int_le, List, length, fold, Option, Some, None, option_and_then, option_map, nat_lt, slice_get, if◌then◌else◌}
use Rattle.std.specs.Bool.{beq}
use Rattle.std.specs.Ordering.{int_eq}
use Rattle.std.specs.Str.{bytes_eq}
use Rattle.yw_base.specs.declared.value.Value.{Value}
use Rattle.yw_base.specs.declared.value.Value.TheVariants as values
use Rattle.yw_grammar.specs.declared.symbol.Call.{Call}
use Rattle.yw_grammar.specs.declared.symbol.Call.TheVariants.{Len, Sum}
use Rattle.yw_grammar.specs.declared.symbol.Infix.{Infix}
use Rattle.yw_grammar.specs.declared.symbol.Infix.TheVariants.{Or, And, Equal, NotEqual, Less, LessOrEqual, Greater, GreaterOrEqual, Plus, Minus, Times, Divide, Remainder}
use Rattle.yw_grammar.specs.declared.symbol.Prefix.{Prefix}
use Rattle.yw_grammar.specs.declared.symbol.Prefix.TheVariants.{Not, Negate}
use Rattle.yw_expr.specs.Tree.{Tree, constant, variable, function, unary, binary, element}

-- from -2^63 to 2^63 - 1
abbrev pub is_i64 : ℤ → Bool
is_i64 (pos n) = nat_lt n (2 ^ 63)
is_i64 (negsuc n) = nat_lt n (2 ^ 63)

-- the number, where it is an i64
abbrev pub in_range : ℤ → Option ℤ
in_range z = if is_i64 z then Some z else None

-- cut towards zero
abbrev pub quotient : ℤ → ℤ → Option ℤ
quotient a b = if int_eq b (pos 0) then None else in_range (int_div a b)

-- what the quotient leaves, where there is one
abbrev pub remainder : ℤ → ℤ → Option ℤ
remainder a b = option_map (λ q. a -ℤ b *ℤ q) (quotient a b)

-- the whole sum
abbrev pub total : List ℤ → ℤ
total zs = fold ◌+ℤ◌ (pos 0) zs

-- the element at a place, from 0
abbrev pub element_at : {A : Type 0} → List A → ℤ → Option A
element_at xs (pos k) = slice_get xs k
element_at xs (negsuc k) = None

abbrev pub an_int : Option ℤ → Option Value
an_int n = option_map (λ z. values.Int z) n

abbrev pub a_bool : Bool → Option Value
a_bool b = Some (values.Bool b)

abbrev pub function_value : Call → Value → Option Value
function_value Len (values.Ints zs) = Some (values.Int (pos (length zs)))
function_value Len (values.Texts ts) = Some (values.Int (pos (length ts)))
function_value Sum (values.Ints zs) = an_int (in_range (total zs))
function_value f v = None

abbrev pub unary_value : Prefix → Value → Option Value
unary_value Not (values.Bool b) = a_bool (not b)
unary_value Negate (values.Int z) = an_int (in_range (neg_ℤ z))
unary_value op v = None

abbrev pub ints_value : Infix → ℤ → ℤ → Option Value
ints_value Plus a b = an_int (in_range (a +ℤ b))
ints_value Minus a b = an_int (in_range (a -ℤ b))
ints_value Times a b = an_int (in_range (a *ℤ b))
ints_value Divide a b = an_int (quotient a b)
ints_value Remainder a b = an_int (remainder a b)
ints_value Equal a b = a_bool (int_eq a b)
ints_value NotEqual a b = a_bool (not (int_eq a b))
ints_value Less a b = a_bool (int_lt a b)
ints_value LessOrEqual a b = a_bool (int_le a b)
ints_value Greater a b = a_bool (int_lt b a)
ints_value GreaterOrEqual a b = a_bool (int_le b a)
ints_value And a b = None
ints_value Or a b = None

abbrev pub bools_value : Infix → Bool → Bool → Option Value
bools_value Equal a b = a_bool (beq a b)
bools_value NotEqual a b = a_bool (not (beq a b))
bools_value op a b = None

abbrev pub texts_value : Infix → List ℕ → List ℕ → Option Value
texts_value Equal a b = a_bool (bytes_eq a b)
texts_value NotEqual a b = a_bool (not (bytes_eq a b))
texts_value op a b = None

-- an operator but `and` and `or`, of two values
abbrev pub binary_value : Infix → Value → Value → Option Value
binary_value op (values.Int a) (values.Int b) = ints_value op a b
binary_value op (values.Bool a) (values.Bool b) = bools_value op a b
binary_value op (values.Text a) (values.Text b) = texts_value op a b
binary_value op v w = None

-- the left value, and then the right one where it is needed
abbrev pub both : Value → Option Value → Option Value
both (values.Bool true) right = right
both (values.Bool false) right = a_bool false
both v right = None

abbrev pub either : Value → Option Value → Option Value
either (values.Bool true) right = a_bool true
either (values.Bool false) right = right
either v right = None

abbrev pub after_left : Infix → Option Value → Value → Option Value
after_left And right v = both v right
after_left Or right v = either v right
after_left op right v = option_and_then (binary_value op v) right

abbrev pub element_value : Value → Value → Option Value
element_value (values.Ints zs) (values.Int k) = an_int (element_at zs k)
element_value (values.Texts ts) (values.Int k) = option_map (λ t. values.Text t) (element_at ts k)
element_value v w = None

-- the value, or None where it is undefined
abbrev pub val : Tree → List Value → Option Value
val (constant v) row = Some v
val (variable k s) row = slice_get row k
val (function f x) row = option_and_then (function_value f) (val x row)
val (unary op x) row = option_and_then (unary_value op) (val x row)
val (binary op x y) row = option_and_then (after_left op (val y row)) (val x row)
val (element x k) row = option_and_then (λ a. option_and_then (element_value a) (val k row)) (val x row)

-- a truth value, where it is one
abbrev pub truth_of : Option Value → Option Bool
truth_of (Some (values.Bool b)) = Some b
truth_of v = None
