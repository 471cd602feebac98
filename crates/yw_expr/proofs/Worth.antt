-- The value of an expression that has a sort, over a row of its scope, is of that sort.
use Rattle.std.proofs.Common.{◌≡◌, ℕ, ℤ, true, false, List, Option, Some, None, refl, sym, ap, ◌∙◌, subst}
use Rattle.std.specs.Prelude.{Bool, IfSome, IsSome, map, slice_get, option_and_then, option_map}
use Rattle.std.proofs.lemmas.Option.{slice_get-map}
use Rattle.yw_base.specs.declared.value.Sort.{Sort}
use Rattle.yw_base.specs.declared.value.Sort.TheVariants as sorts
use Rattle.yw_base.specs.declared.value.Value.{Value}
use Rattle.yw_base.specs.declared.value.Value.TheVariants as values
use Rattle.yw_base.specs.declared.value.Val.{Val}
use Rattle.yw_base.specs.Values.{sort_of, value_of}
use Rattle.yw_grammar.specs.declared.symbol.Call.{Call}
use Rattle.yw_grammar.specs.declared.symbol.Call.TheVariants.{Len, Sum}
use Rattle.yw_grammar.specs.declared.symbol.Infix.{Infix}
use Rattle.yw_grammar.specs.declared.symbol.Infix.TheVariants.{Or, And, Equal, NotEqual, Plus, Minus, Times, Divide, Remainder}
use Rattle.yw_grammar.specs.declared.symbol.Prefix.{Prefix}
use Rattle.yw_grammar.specs.declared.symbol.Prefix.TheVariants.{Not, Negate}
use Rattle.yw_expr.specs.Meaning.{an_int, function_value, unary_value, ints_value, bools_value, texts_value, binary_value, after_left, element_value, val}
use Rattle.yw_expr.specs.Sorts.{function_sort, unary_sort, ints_sort, bools_sort, texts_sort, binary_sort, element_sort, tree_sort, IsIn}
use Rattle.yw_expr.specs.Tree.{Tree, constant, variable, function, unary, binary, element}

-- where there is a value, it is of this sort
abbrev pub OfSort : Option Value → Sort → Type 0
OfSort None s = Unit {0}
OfSort (Some v) s = sort_of v ≡ s

an_int_sorted : (o : Option ℤ) → OfSort (an_int o) sorts.Int
an_int_sorted None = tt
an_int_sorted (Some z) = refl

a_text_sorted : (o : Option (List ℕ)) → OfSort (option_map (λ t. values.Text t) o) sorts.Text
a_text_sorted None = tt
a_text_sorted (Some t) = refl

same : {s t : Sort} → Some s ≡ Some t → s ≡ t
same h = cc

moved : (o : Option Value) (s t : Sort) → Some s ≡ Some t → OfSort o s → OfSort o t
moved o s t h k = let p : Sort → Type 0 = OfSort o in subst p (same h) k

function_sorted : (f : Call) (v : Value) (s : Sort) → function_sort f (sort_of v) ≡ Some s → OfSort (function_value f v) s
function_sorted Len (values.Ints zs) s h = same h
function_sorted Len (values.Texts ts) s h = same h
function_sorted Sum (values.Ints zs) s h = moved (function_value Sum (values.Ints zs)) sorts.Int s h (an_int_sorted _)
function_sorted f v s h = tt

unary_sorted : (op : Prefix) (v : Value) (s : Sort) → unary_sort op (sort_of v) ≡ Some s → OfSort (unary_value op v) s
unary_sorted Not (values.Bool b) s h = same h
unary_sorted Negate (values.Int z) s h = moved (unary_value Negate (values.Int z)) sorts.Int s h (an_int_sorted _)
unary_sorted op v s h = tt

ints_sorted : (op : Infix) (a b : ℤ) (s : Sort) → ints_sort op ≡ Some s → OfSort (ints_value op a b) s
ints_sorted Plus a b s h = moved (ints_value Plus a b) sorts.Int s h (an_int_sorted _)
ints_sorted Minus a b s h = moved (ints_value Minus a b) sorts.Int s h (an_int_sorted _)
ints_sorted Times a b s h = moved (ints_value Times a b) sorts.Int s h (an_int_sorted _)
ints_sorted Divide a b s h = moved (ints_value Divide a b) sorts.Int s h (an_int_sorted _)
ints_sorted Remainder a b s h = moved (ints_value Remainder a b) sorts.Int s h (an_int_sorted _)
ints_sorted And a b s h = tt
ints_sorted Or a b s h = tt
ints_sorted op a b s h = same h

bools_sorted : (op : Infix) (a b : Bool) (s : Sort) → bools_sort op ≡ Some s → OfSort (bools_value op a b) s
bools_sorted Equal a b s h = same h
bools_sorted NotEqual a b s h = same h
bools_sorted op a b s h = tt

texts_sorted : (op : Infix) (a b : List ℕ) (s : Sort) → texts_sort op ≡ Some s → OfSort (texts_value op a b) s
texts_sorted Equal a b s h = same h
texts_sorted NotEqual a b s h = same h
texts_sorted op a b s h = tt

binary_sorted : (op : Infix) (v w : Value) (s : Sort) → binary_sort op (sort_of v) (sort_of w) ≡ Some s → OfSort (binary_value op v w) s
binary_sorted op (values.Int a) (values.Int b) s h = ints_sorted op a b s h
binary_sorted op (values.Bool a) (values.Bool b) s h = bools_sorted op a b s h
binary_sorted op (values.Text a) (values.Text b) s h = texts_sorted op a b s h
binary_sorted op v w s h = tt

element_sorted : (v w : Value) (s : Sort) → element_sort (sort_of v) (sort_of w) ≡ Some s → OfSort (element_value v w) s
element_sorted (values.Ints zs) (values.Int k) s h = moved (element_value (values.Ints zs) (values.Int k)) sorts.Int s h (an_int_sorted _)
element_sorted (values.Texts ts) (values.Int k) s h = moved (element_value (values.Texts ts) (values.Int k)) sorts.Text s h (a_text_sorted _)
element_sorted v w s h = tt

-- of an operator but `and` and `or`, with its right operand
with_right : (op : Infix) (v : Value) (o : Option Value) (b s : Sort) → binary_sort op (sort_of v) b ≡ Some s → OfSort o b → OfSort (option_and_then (binary_value op v) o) s
with_right op v None b s h k = tt
with_right op v (Some w) b s h k = binary_sorted op v w s (ap (binary_sort op (sort_of v)) k ∙ h)

both_sorted : (v : Value) (o : Option Value) (b s : Sort) → binary_sort And (sort_of v) b ≡ Some s → OfSort o b → OfSort (after_left And o v) s
both_sorted (values.Bool true) o sorts.Bool s h k = moved o sorts.Bool s h k
both_sorted (values.Bool false) o sorts.Bool s h k = same h
both_sorted (values.Bool true) o b s h k = cc
both_sorted (values.Bool false) o b s h k = cc
both_sorted v o b s h k = tt

either_sorted : (v : Value) (o : Option Value) (b s : Sort) → binary_sort Or (sort_of v) b ≡ Some s → OfSort o b → OfSort (after_left Or o v) s
either_sorted (values.Bool true) o sorts.Bool s h k = same h
either_sorted (values.Bool false) o sorts.Bool s h k = moved o sorts.Bool s h k
either_sorted (values.Bool true) o b s h k = cc
either_sorted (values.Bool false) o b s h k = cc
either_sorted v o b s h k = tt

after_left_sorted : (op : Infix) (v : Value) (o : Option Value) (b s : Sort) → binary_sort op (sort_of v) b ≡ Some s → OfSort o b → OfSort (after_left op o v) s
after_left_sorted And v o b s h k = both_sorted v o b s h k
after_left_sorted Or v o b s h k = either_sorted v o b s h k
after_left_sorted op v o b s h k = with_right op v o b s h k

-- where the sort is known, so is that of the value
abbrev Sorted : Option Value → Option Sort → Type 0
Sorted o s = (a : Sort) → s ≡ Some a → OfSort o a

one_sorted : (table : Sort → Option Sort) (f : Value → Option Value) → ((v : Value) (s : Sort) → table (sort_of v) ≡ Some s → OfSort (f v) s) → (o : Option Value) (s : Option Sort) → Sorted o s → Sorted (option_and_then f o) (option_and_then table s)
one_sorted table f step None s h a k = tt
one_sorted table f step (Some v) None h a k = cc
one_sorted table f step (Some v) (Some b) h a k = step v a (ap table (h b refl) ∙ k)

two_sorted : (table : Sort → Sort → Option Sort) (f : Option Value → Value → Option Value) → ((v : Value) (o : Option Value) (b s : Sort) → table (sort_of v) b ≡ Some s → OfSort o b → OfSort (f o v) s) → (o p : Option Value) (s t : Option Sort) → Sorted o s → Sorted p t → Sorted (option_and_then (f p) o) (option_and_then (λ a. option_and_then (table a) t) s)
two_sorted table f step None p s t h k a e = tt
two_sorted table f step (Some v) p None t h k a e = cc
two_sorted table f step (Some v) p (Some b) None h k a e = cc
two_sorted table f step (Some v) p (Some b) (Some c) h k a e = step v p c a (ap (λ x. table x c) (h b refl) ∙ e) (k c refl)

element_step : (v : Value) (o : Option Value) (b s : Sort) → element_sort (sort_of v) b ≡ Some s → OfSort o b → OfSort (option_and_then (element_value v) o) s
element_step v None b s h k = tt
element_step v (Some w) b s h k = element_sorted v w s (ap (element_sort (sort_of v)) k ∙ h)

of_option : (o : Option Value) (s : Sort) → option_map sort_of o ≡ Some s → OfSort o s
of_option None s h = tt
of_option (Some v) s h = same h

variable_sorted : (row : List Value) (k : ℕ) (s : Sort) → slice_get (map sort_of row) k ≡ Some s → OfSort (slice_get row k) s
variable_sorted row k s h = of_option (slice_get row k) s (sym (slice_get-map sort_of row k) ∙ h)

pub sorted : (row : List Value) (e : Tree) → IsIn (map sort_of row) e → Sorted (val e row) (tree_sort e)
sorted row (constant v) h a k = same k
sorted row (variable n s) h a k = moved (slice_get row n) s a k (variable_sorted row n s h)
sorted row (function f x) h a k = one_sorted (function_sort f) (function_value f) (function_sorted f) (val x row) (tree_sort x) (sorted row x h) a k
sorted row (unary op x) h a k = one_sorted (unary_sort op) (unary_value op) (unary_sorted op) (val x row) (tree_sort x) (sorted row x h) a k
sorted row (binary op x y) h a k = two_sorted (binary_sort op) (after_left op) (after_left_sorted op) (val x row) (val y row) (tree_sort x) (tree_sort y) (sorted row x h.0) (sorted row y h.1) a k
sorted row (element x n) h a k = two_sorted element_sort (λ o v. option_and_then (element_value v) o) element_step (val x row) (val n row) (tree_sort x) (tree_sort n) (sorted row x h.0) (sorted row n h.1) a k

known_sort : (o : Option Sort) → IsSome o → (a : Sort) × (o ≡ Some a)
known_sort None h = cc
known_sort (Some a) h = (a, refl)

seen : (row : List Value) (e : Tree) (result : Option Val) (a : Sort) → tree_sort e ≡ Some a → option_map value_of result ≡ val e row → IsIn (map sort_of row) e → IfSome result (λ v. tree_sort e ≡ Some (sort_of (value_of v)))
seen row e None a h k i = tt
seen row e (Some v) a h k i =
    let p : Option Value → Type 0 = λ o. OfSort o a in
    h ∙ ap (λ s. Some s) (sym (subst p (sym k) (sorted row e i a h)))

pub view_sorted : (row : List Value) (e : Tree) (result : Option Val) → IsSome (tree_sort e) → option_map value_of result ≡ val e row → IsIn (map sort_of row) e → IfSome result (λ v. tree_sort e ≡ Some (sort_of (value_of v)))
view_sorted row e result h k i = let (a, is) = known_sort (tree_sort e) h in seen row e result a is k i
