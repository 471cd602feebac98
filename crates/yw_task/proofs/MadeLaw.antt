-- What the items of a task made together, and what is kept of it, as the definitions say it.
use Rattle.std.proofs.Common.{take, length, get_or, ◌<◌, Bool, List, None, Option, Some, [], ap, cond, false, map, refl, sym, true, ℕ, ◌++◌, ◌+◌, ◌∙◌, ◌∷◌, ◌≡◌}
use Rattle.std.proofs.lemmas.List.{take_more}
use Rattle.std.proofs.lemmas.List.Elements.{filter_map-append}
use Rattle.std.specs.Option.{option_to_list}
use Rattle.std.specs.List.{cons_option, enumerate_from, filter_map}
use Rattle.std.specs.Prelude.{filter, fold, option_and_then, slice_get}
use Rattle.yw_base.specs.Values.{zero_of}
use Rattle.yw_base.specs.declared.value.Sort.{Sort}
use Rattle.yw_base.specs.declared.value.Sort.TheVariants as sorts
use Rattle.yw_base.specs.declared.value.Value.{Value}
use Rattle.yw_base.specs.declared.value.Value.TheVariants as values
use Rattle.yw_spec.specs.declared.task.Assign.{Assign}
use Rattle.yw_spec.specs.declared.task.Many.{Many}
use Rattle.yw_spec.specs.declared.task.Param.{Param}
use Rattle.yw_spec.specs.declared.task.Task.{Task}
use Rattle.yw_state.specs.Identity.{Ident}
use Rattle.yw_state.specs.Passing as passing
use Rattle.yw_state.specs.Passing.{int_in, kept_values, list_of, made_rows, set_row, text_in}
use Rattle.yw_state.specs.State.{ItemPart}
use Rattle.yw_state.specs.Values.{Row}
use Rattle.yw_state.specs.Words.{is_completed}
use Rattle.yw_task.specs.Making.{assigned, column, first_or, listed, made_by, out_value, outs_from, rows_made}
use Rattle.yw_tree.proofs.Rows.{row_parts}
use Rattle.yw_tree.specs.declared.Node.{Node, out-Node}

-- ---- lists of what may be there

pub filter_map_twice : {A B C : Type 0} (f : A → Option B) (g : B → Option C) (xs : List A) → filter_map g (filter_map f xs) ≡ filter_map (λ x. option_and_then g (f x)) xs
filter_map_twice f g [] = refl
filter_map_twice {A} {B} {C} f g (x ∷ xs) = one (f x) ∙ ap (cons_option (option_and_then g (f x))) (filter_map_twice f g xs)
  where
    one : (o : Option B) → filter_map g (cons_option o (filter_map f xs)) ≡ cons_option (option_and_then g o) (filter_map g (filter_map f xs))
    one None = refl
    one (Some y) = refl

-- one more of a list
pub found_more : {A B : Type 0} (g : A → Option B) (xs : List A) (k : ℕ) (x : A) → k < length xs → x ≡ get_or xs k x → filter_map g (take (k + 1) xs) ≡ filter_map g (take k xs) ++ option_to_list (g x)
found_more {A} {B} g xs k x at is = ap (filter_map g) (take_more xs k x at) ∙ filter_map-append g (take k xs) (get_or xs k x ∷ []) ∙ ap (λ z. filter_map g (take k xs) ++ filter_map g (z ∷ [])) (sym is) ∙ ap (λ ys. filter_map g (take k xs) ++ ys) (one (g x))
  where
    one : (o : Option B) → cons_option o [] ≡ option_to_list o
    one None = refl
    one (Some y) = refl

-- ---- of one parameter

-- what stands there, of those that are completed
step : (k : ℕ) (n : Node) (b : Bool) (ns : List Node) (rows : List Value)
    → filter_map (λ (row : Row). slice_get row k) (map (λ (x : Node). (out-Node x).made) (cond b (n ∷ ns) ns)) ≡ cons_option (cond b (slice_get (out-Node n).made k) None) (filter_map (λ (row : Row). slice_get row k) (map (λ (x : Node). (out-Node x).made) ns))
step k n true ns rows = refl
step k n false ns rows = refl

pub column_is : (k : ℕ) (ns : List Node) → filter_map (λ (row : Row). slice_get row k) (rows_made ns) ≡ column k ns
column_is k [] = refl
column_is k (n ∷ ns) =
    step k n (is_completed (out-Node n).stage) (filter (λ (x : Node). is_completed (out-Node x).stage) ns) [] ∙ ap (cons_option (made_by k n)) (column_is k ns)

-- ---- of all parameters

lists_are : (sort : Sort) (k : ℕ) (ns : List Node) → listed sort k ns ≡ list_of sort (column k ns)
lists_are sorts.Text k ns = ap (λ ts. values.Texts ts) (sym (filter_map_twice (made_by k) text_in ns))
lists_are sort k ns = ap (λ zs. values.Ints zs) (sym (filter_map_twice (made_by k) int_in ns))

one_is : (sort : Sort) (vs : List Value) → first_or (zero_of sort) vs ≡ passing.out_value None sort vs
one_is sort [] = refl
one_is sort (v ∷ vs) = refl

by_rows_is : (m : Option Many) (sort : Sort) (k : ℕ) (ns : List Node) → out_value m sort k ns ≡ passing.out_value m sort (column k ns)
by_rows_is (Some m) sort k ns = lists_are sort k ns
by_rows_is None sort k ns = one_is sort (column k ns)

outs_are : (t : Task) (ns : List Node) (k : ℕ) (ps : List Param)
    → outs_from t ns k ps ≡ map (λ (e : ℕ × Param). passing.out_value t.many e.1.sort (filter_map (λ (row : Row). slice_get row e.0) (rows_made ns))) (enumerate_from k ps)
outs_are t ns k [] = refl
outs_are t ns k (p ∷ ps) =
    ap (λ v. v ∷ outs_from t ns (k + 1) ps) (by_rows_is t.many p.sort k ns ∙ ap (passing.out_value t.many p.sort) (sym (column_is k ns)))
    ∙ ap (λ vs. passing.out_value t.many p.sort (filter_map (λ (row : Row). slice_get row k) (rows_made ns)) ∷ vs) (outs_are t ns (k + 1) ps)

pub set_row_is : (t : Task) (ns : List Node) (vals : Row) → outs_from t ns 0 t.outs ++ vals ≡ set_row t (rows_made ns) vals
set_row_is t ns vals = ap (λ row. row ++ vals) (outs_are t ns 0 t.outs)

-- ---- what is assigned

abbrev assigned_all : Row → Row → List Assign → Row
assigned_all row vals [] = vals
assigned_all row vals (a ∷ set) = assigned_all row (assigned row vals a) set

all_assigned : (row vals : Row) (set : List Assign) → fold (assigned row) vals set ≡ assigned_all row vals set
all_assigned row vals [] = refl
all_assigned row vals (a ∷ set) = all_assigned row (assigned row vals a) set

pub kept_is : (t : Task) (rows : List Row) (vals : Row) → fold (assigned (set_row t rows vals)) vals t.set ≡ kept_values t rows vals
kept_is t rows vals = all_assigned (set_row t rows vals) vals t.set

-- where nothing is assigned, all values stay
pub none_kept : (t : Task) (rows : List Row) (vals : Row) → t.set ≡ [] → vals ≡ kept_values t rows vals
none_kept t rows vals none = ap (fold (assigned (set_row t rows vals)) vals) (sym none) ∙ kept_is t rows vals

-- ---- of the items, as the definitions list them

made_step : (n : Node) (b : Bool) (es : List (Ident × ItemPart)) (ns : List Node) → map (λ (e : Ident × ItemPart). e.1.made) es ≡ map (λ (x : Node). (out-Node x).made) ns
    → map (λ (e : Ident × ItemPart). e.1.made) (cond b (((out-Node n).id, record { task = (out-Node n).task; stage = (out-Node n).stage; given = (out-Node n).given; made = (out-Node n).made; who = (out-Node n).who }) ∷ es) es) ≡ map (λ (x : Node). (out-Node x).made) (cond b (n ∷ ns) ns)
made_step n true es ns e = ap (λ rows. (out-Node n).made ∷ rows) e
made_step n false es ns e = e

pub made_rows_are : (ns : List Node) → made_rows (row_parts ns) ≡ rows_made ns
made_rows_are [] = refl
made_rows_are (n ∷ ns) = made_step n (is_completed (out-Node n).stage) (filter (λ (e : Ident × ItemPart). is_completed e.1.stage) (row_parts ns)) (filter (λ (x : Node). is_completed (out-Node x).stage) ns) (made_rows_are ns)
