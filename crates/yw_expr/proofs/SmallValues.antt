-- Over a row of small values an expression with small constants has small values.
use Rattle.std.proofs.Common.{◌≡◌, ℕ, ℤ, pos, negsuc, true, false, List, Option, Some, None, refl, sym, subst, ⊎_elim}
use Rattle.std.proofs.lemmas.Bool.{and_parts}
use Rattle.std.proofs.lemmas.List.Sums.{AllPass-from_list_all}
use Rattle.std.specs.Prelude.{Bool, IfSome, slice_get, option_and_then, option_map}
use Rattle.std.specs.List.{All, list_all}
use Rattle.std.proofs.lemmas.Option.{slice_get_cases}
use Rattle.yw_base.specs.declared.value.Val.{Val}
use Rattle.yw_base.specs.declared.value.Value.{Value}
use Rattle.yw_base.specs.declared.value.Value.TheVariants as values
use Rattle.yw_base.specs.Values.{is_short, value_of}
use Rattle.yw_grammar.specs.declared.symbol.Call.{Call}
use Rattle.yw_grammar.specs.declared.symbol.Call.TheVariants.{Len, Sum}
use Rattle.yw_grammar.specs.declared.symbol.Infix.{Infix}
use Rattle.yw_grammar.specs.declared.symbol.Infix.TheVariants.{Or, And, Equal, NotEqual, Plus, Minus, Times, Divide, Remainder}
use Rattle.yw_grammar.specs.declared.symbol.Prefix.{Prefix}
use Rattle.yw_grammar.specs.declared.symbol.Prefix.TheVariants.{Not, Negate}
use Rattle.yw_expr.specs.Meaning.{an_int, element_at, function_value, unary_value, ints_value, bools_value, texts_value, binary_value, after_left, element_value, val}
use Rattle.yw_expr.specs.Small.{IsSmall, HasSmallConstants}
use Rattle.yw_expr.specs.Tree.{Tree, constant, variable, function, unary, binary, element}

abbrev Small : Option Value → Type 0
Small o = IfSome o IsSmall

at_place : {A : Type 0} (P : A → Type 0) (xs : List A) (k : ℕ) → All P xs → IfSome (slice_get xs k) P
at_place P xs k h =
    ⊎_elim (λ w. subst (λ o. IfSome o P) (sym w.2) (subst P w.3 (h k w.0 w.1))) (λ w. subst (λ o. IfSome o P) (sym w.1) tt) (slice_get_cases xs k).1

an_int_small : (o : Option ℤ) → Small (an_int o)
an_int_small None = tt
an_int_small (Some z) = refl

function_small : (f : Call) (v : Value) → Small (function_value f v)
function_small Len (values.Ints zs) = refl
function_small Len (values.Texts ts) = refl
function_small Sum (values.Ints zs) = an_int_small _
function_small f v = tt

unary_small : (op : Prefix) (v : Value) → Small (unary_value op v)
unary_small Not (values.Bool b) = refl
unary_small Negate (values.Int z) = an_int_small _
unary_small op v = tt

ints_small : (op : Infix) (a b : ℤ) → Small (ints_value op a b)
ints_small Plus a b = an_int_small _
ints_small Minus a b = an_int_small _
ints_small Times a b = an_int_small _
ints_small Divide a b = an_int_small _
ints_small Remainder a b = an_int_small _
ints_small And a b = tt
ints_small Or a b = tt
ints_small op a b = refl

bools_small : (op : Infix) (a b : Bool) → Small (bools_value op a b)
bools_small Equal a b = refl
bools_small NotEqual a b = refl
bools_small op a b = tt

texts_small : (op : Infix) (a b : List ℕ) → Small (texts_value op a b)
texts_small Equal a b = refl
texts_small NotEqual a b = refl
texts_small op a b = tt

binary_small : (op : Infix) (v w : Value) → Small (binary_value op v w)
binary_small op (values.Int a) (values.Int b) = ints_small op a b
binary_small op (values.Bool a) (values.Bool b) = bools_small op a b
binary_small op (values.Text a) (values.Text b) = texts_small op a b
binary_small op v w = tt

a_text_small : (o : Option (List ℕ)) → IfSome o (λ t. is_short t ≡ true) → Small (option_map (λ t. values.Text t) o)
a_text_small None h = tt
a_text_small (Some t) h = h

text_small : (ts : List (List ℕ)) (k : ℤ) → list_all is_short ts ≡ true → Small (option_map (λ t. values.Text t) (element_at ts k))
text_small ts (pos k) h = a_text_small (slice_get ts k) (at_place (λ t. is_short t ≡ true) ts k (AllPass-from_list_all is_short ts h))
text_small ts (negsuc k) h = tt

element_small : (v w : Value) → IsSmall v → Small (element_value v w)
element_small (values.Ints zs) (values.Int k) h = an_int_small _
element_small (values.Texts ts) (values.Int k) h = text_small ts k (and_parts _ _ h).1
element_small v w h = tt

with_right : (op : Infix) (v : Value) (o : Option Value) → Small (option_and_then (binary_value op v) o)
with_right op v None = tt
with_right op v (Some w) = binary_small op v w

both_small : (v : Value) (o : Option Value) → Small o → Small (after_left And o v)
both_small (values.Bool true) o h = h
both_small (values.Bool false) o h = refl
both_small v o h = tt

either_small : (v : Value) (o : Option Value) → Small o → Small (after_left Or o v)
either_small (values.Bool true) o h = refl
either_small (values.Bool false) o h = h
either_small v o h = tt

after_left_small : (op : Infix) (o : Option Value) (v : Value) → Small o → Small (after_left op o v)
after_left_small And o v h = both_small v o h
after_left_small Or o v h = either_small v o h
after_left_small op o v h = with_right op v o

element_step : (o : Option Value) (v : Value) → IsSmall v → Small (option_and_then (element_value v) o)
element_step None v h = tt
element_step (Some w) v h = element_small v w h

then_small : (f : Value → Option Value) → ((v : Value) → IsSmall v → Small (f v)) → (o : Option Value) → Small o → Small (option_and_then f o)
then_small f step None h = tt
then_small f step (Some v) h = step v h

val_small : (row : List Value) → All IsSmall row → (e : Tree) → HasSmallConstants e → Small (val e row)
val_small row all (constant v) h = h
val_small row all (variable k s) h = at_place IsSmall row k all
val_small row all (function f x) h = then_small (function_value f) (λ v k. function_small f v) (val x row) (val_small row all x h)
val_small row all (unary op x) h = then_small (unary_value op) (λ v k. unary_small op v) (val x row) (val_small row all x h)
val_small row all (binary op x y) h = then_small (after_left op (val y row)) (λ v k. after_left_small op (val y row) v (val_small row all y h.1)) (val x row) (val_small row all x h.0)
val_small row all (element x n) h = then_small (λ v. option_and_then (element_value v) (val n row)) (λ v k. element_step (val n row) v k) (val x row) (val_small row all x h.0)

seen_small : (result : Option Val) → Small (option_map value_of result) → IfSome result (λ v. IsSmall (value_of v))
seen_small None h = tt
seen_small (Some v) h = h

pub view_small : (row : List Value) (e : Tree) (result : Option Val) → option_map value_of result ≡ val e row → HasSmallConstants e → All IsSmall row → IfSome result (λ v. IsSmall (value_of v))
view_small row e result is h all = seen_small result (subst (λ o. Small o) (sym is) (val_small row all e h))
