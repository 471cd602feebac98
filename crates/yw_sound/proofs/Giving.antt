-- What an expression gives over values of the sorts of which it speaks: a value of its sort, within the limits.
use Rattle.std.specs.Prelude.{◌≡◌, Bool, true, List, [], ◌∷◌, map, Some, refl}
use Rattle.std.specs.Cmp.Lexicographic.{pointwise}
use Rattle.std.specs.List.{list_all}
use Rattle.std.proofs.Common.{sym, ◌∙◌, ap, subst}
use Rattle.std.proofs.lemmas.Bool.{and_from, and_parts}
use Rattle.std.proofs.lemmas.List.Sums.{AllPass-from_list_all}
use Rattle.yw_base.specs.Values.{has_sort, is_small, may_hold, sort_of, value_of, zero_of}
use Rattle.yw_base.specs.declared.value.Sort.{Sort}
use Rattle.yw_base.specs.declared.value.Sort.TheVariants as sorts
use Rattle.yw_base.specs.declared.value.Val.{Val}
use Rattle.yw_base.specs.declared.value.Val.TheVariants as vals
use Rattle.yw_base.specs.declared.value.Value.{Value}
use Rattle.yw_base.specs.declared.value.Value.TheVariants as values
use Rattle.yw_expr.proofs.SmallValues.{view_small}
use Rattle.yw_expr.proofs.Worth.{OfSort, sorted}
use Rattle.yw_expr.specs.Meaning.{val}
use Rattle.yw_expr.specs.Small.{HasSmallConstants}
use Rattle.yw_expr.specs.Sorts.{IsIn}
use Rattle.yw_expr.specs.Tree.{Tree}
use Rattle.yw_spec.specs.declared.spec.Var.{Var}
use Rattle.yw_sound.specs.Sound.{Gives}
use Rattle.yw_state.proofs.MapLemmas.{never}
use Rattle.yw_state.specs.Values.{Row}
use Rattle.yw_state.specs.Well.{vals_fit}

-- ---- values over a row

-- the row has a value of each sort, within the limits
abbrev pub holds : List Sort → Row → Bool
holds = pointwise may_hold

is_of_sort : (v : Value) (s : Sort) → has_sort v s ≡ true → sort_of v ≡ s
is_of_sort (values.Bool b) sorts.Bool e = refl
is_of_sort (values.Int n) sorts.Int e = refl
is_of_sort (values.Text t) sorts.Text e = refl
is_of_sort (values.Ints ns) sorts.Ints e = refl
is_of_sort (values.Texts ts) sorts.Texts e = refl
is_of_sort v s e = never e

own_sort : (v : Value) → has_sort v (sort_of v) ≡ true
own_sort (values.Bool b) = refl
own_sort (values.Int n) = refl
own_sort (values.Text t) = refl
own_sort (values.Ints ns) = refl
own_sort (values.Texts ts) = refl

row_sorts : (ss : List Sort) (row : Row) → holds ss row ≡ true → map sort_of row ≡ ss
row_sorts [] [] e = refl
row_sorts [] (v ∷ row) e = never e
row_sorts (s ∷ ss) [] e = never e
row_sorts (s ∷ ss) (v ∷ row) e =
    let parts = and_parts (may_hold s v) (holds ss row) e in
    ap (λ t. t ∷ map sort_of row) (is_of_sort v s (and_parts (has_sort v s) (is_small v) parts.0).0) ∙ ap (λ ts. s ∷ ts) (row_sorts ss row parts.1)

row_small : (ss : List Sort) (row : Row) → holds ss row ≡ true → list_all is_small row ≡ true
row_small [] [] e = refl
row_small [] (v ∷ row) e = never e
row_small (s ∷ ss) [] e = never e
row_small (s ∷ ss) (v ∷ row) e =
    let parts = and_parts (may_hold s v) (holds ss row) e in and_from _ _ (and_parts (has_sort v s) (is_small v) parts.0).1 (row_small ss row parts.1)

-- the value, lent
abbrev lent : Value → Val
lent (values.Bool b) = vals.Bool b
lent (values.Int n) = vals.Int n
lent (values.Text t) = vals.Text (record { ref_ptr = (0, 0); now = t })
lent (values.Ints ns) = vals.Ints (record { ref_ptr = (0, 0); now = ns })
lent (values.Texts ts) = vals.Texts (record { ref_ptr = (0, 0); now = ts })

lent_is : (v : Value) → value_of (lent v) ≡ v
lent_is (values.Bool b) = refl
lent_is (values.Int n) = refl
lent_is (values.Text t) = refl
lent_is (values.Ints ns) = refl
lent_is (values.Texts ts) = refl

-- an expression gives a value of its sort, within the limits
pub gives_fits : (ss : List Sort) (row : Row) (s : Sort) (e : Tree) → Gives ss s e → HasSmallConstants e → holds ss row ≡ true → (v : Value) → val e row ≡ Some v → may_hold s v ≡ true
gives_fits ss row s e gives constants fit v is =
    let of_sort : sort_of v ≡ s = subst (λ o. OfSort o s) is (sorted row e (subst (λ (ts : List Sort). IsIn ts e) (sym (row_sorts ss row fit)) gives.speaks) s gives.sort) in
    let small : is_small v ≡ true =
    ap is_small (sym (lent_is v)) ∙ view_small row e (Some (lent v)) (ap Some (lent_is v) ∙ sym is) constants (AllPass-from_list_all is_small row (row_small ss row fit))
    in
    and_from _ _ (ap (has_sort v) (sym of_sort) ∙ own_sort v) small

-- a net's values have the sorts of its variables
pub vals_hold : (xs : List Var) (row : Row) → vals_fit xs row ≡ true → holds (map (λ (x : Var). x.sort) xs) row ≡ true
vals_hold [] [] e = refl
vals_hold [] (v ∷ row) e = never e
vals_hold (x ∷ xs) [] e = never e
vals_hold (x ∷ xs) (v ∷ row) e = let parts = and_parts (may_hold x.sort v) (vals_fit xs row) e in and_from _ _ parts.0 (vals_hold xs row parts.1)

-- ---- the first value of a sort

pub zero_fits : (sort : Sort) → may_hold sort (zero_of sort) ≡ true
zero_fits sorts.Bool = refl
zero_fits sorts.Int = refl
zero_fits sorts.Text = refl
zero_fits sorts.Ints = refl
zero_fits sorts.Texts = refl
