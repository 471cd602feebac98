-- What a command gives is of the sorts that are wanted.
use Rattle.std.specs.Prelude.{◌≡◌, ℤ, ◌&&◌, ◌||◌, Bool, true, false, List, [], ◌∷◌, map, find, Option, Some, None, is_none, is_some, option_map, unwrap_or, refl, cond}
use Rattle.std.specs.List.{list_all}
use Rattle.std.specs.Option.{option_or}
use Rattle.std.specs.Cmp.Lexicographic.{pointwise}
use Rattle.std.specs.Ordering.{int_eq}
use Rattle.std.specs.Str.{bytes_eq}
use Rattle.std.specs.Prelude.{ℕ}
use Rattle.std.proofs.Common.{sym, ◌∙◌, ap}
use Rattle.std.proofs.lemmas.Bool.{and_parts, and_from}
use Rattle.std.proofs.lemmas.Bool.Decides.{Decides-int_eq}
use Rattle.std.proofs.lemmas.Slice.Eq.{bytes_eq-Decides}
use Rattle.yw_base.specs.Usages.{comes_in}
use Rattle.yw_base.specs.Values.{may_hold}
use Rattle.yw_base.specs.declared.value.Sort.{Sort}
use Rattle.yw_base.specs.declared.value.Value.{Value}
use Rattle.yw_base.specs.declared.value.Value.TheVariants as values
use Rattle.yw_spec.specs.declared.spec.Var.{Var}
use Rattle.yw_spec.specs.declared.task.Param.{Param}
use Rattle.yw_state.proofs.Tests.{by_option, by_test, map_some, nowhere, some_same, then_some}
use Rattle.yw_state.specs.Allowed.{launch_fits}
use Rattle.yw_state.specs.Given.{as_sort, launch_values, made_values, misfit}
use Rattle.yw_state.specs.Options.{all_of}
use Rattle.yw_state.specs.Passing.{row_fits}
use Rattle.yw_state.specs.Values.{Row, same_value}
use Rattle.yw_state.specs.declared.command.Given.{Given}
use Rattle.yw_asked.proofs.Given.{all_there}
use Rattle.yw_asked.proofs.Unbroken.{unmapped}

-- ---- what is made

if_passed : {A : Type 0} (p : A → Bool) (x y : A) → cond (p x) (Some x) None ≡ Some y → p y ≡ true
if_passed p x y e =
    by_test (p x)
    (λ pass. ap p (sym (some_same x y (sym (ap (λ b. cond b (Some x) None) pass) ∙ e))) ∙ pass)
    (λ fail. nowhere (sym (ap (λ b. cond b (Some x) None) fail) ∙ e))

pub sort_fits : (sort : Sort) (o : Option Value) (v : Value) → as_sort sort o ≡ Some v → may_hold sort v ≡ true
sort_fits sort o v e = let (x, is, kept) = then_some _ o v e in if_passed (may_hold sort) _ v kept

all_fit : (f : Param → Option Value) → ((p : Param) (v : Value) → f p ≡ Some v → may_hold p.sort v ≡ true) → (ps : List Param) (row : Row) → all_of (map f ps) ≡ Some row → row_fits ps row ≡ true
all_fit f fits [] row e = ap (row_fits []) (sym (some_same [] row e))
all_fit f fits (p ∷ ps) row e =
    let (v, is, rest) = then_some (λ v. option_map (λ vs. v ∷ vs) (all_of (map f ps))) (f p) row e in
    let (vs, are, made) = map_some (λ vs. v ∷ vs) (all_of (map f ps)) row rest in
    ap (row_fits (p ∷ ps)) (sym made) ∙ and_from (may_hold p.sort v) _ (fits p v is) (all_fit f fits ps vs are)

no_first : {A : Type 0} (a b : Option A) → option_or a b ≡ None → a ≡ None
no_first None b e = refl
no_first (Some x) b e = nowhere (sym e)

-- nothing lacks and nothing has another sort, so the values of all parameters are there
pub made_there : (ps : List Param) (gs : List Given) → misfit ps gs ≡ None → (row : Row) × (made_values ps gs ≡ Some row) × (row_fits ps row ≡ true)
made_there ps gs none =
    let (row, are) = all_there _ ps (unmapped _ _ (no_first _ _ none)) in
    (row, are, all_fit _ (λ p v is. sort_fits p.sort _ v is) ps row are)

pub all_defined : {A B : Type 0} (f : A → Option B) (xs : List A) → find (λ x. is_none (f x)) xs ≡ None → list_all (λ x. is_some (f x)) xs ≡ true
all_defined f [] none = refl
all_defined f (x ∷ xs) none =
    by_option (f x)
    (λ lacks. nowhere (sym none ∙ ap (λ o. cond (is_none o) (Some x) (find (λ y. is_none (f y)) xs)) lacks))
    (λ y is. and_from (is_some (f x)) _ (ap (λ o. is_some o) is) (all_defined f xs (sym (ap (λ o. cond (is_none o) (Some x) (find (λ y. is_none (f y)) xs)) is) ∙ none)))

-- ---- what a case begins with

same_texts : (a : List (List ℕ)) → pointwise bytes_eq a a ≡ true
same_texts [] = refl
same_texts (x ∷ xs) = and_from (bytes_eq x x) _ ((bytes_eq-Decides x x).1 refl) (same_texts xs)

same_ints : (a : List ℤ) → pointwise int_eq a a ≡ true
same_ints [] = refl
same_ints (x ∷ xs) = and_from (int_eq x x) _ ((Decides-int_eq x x).1 refl) (same_ints xs)

value_itself : (v : Value) → same_value v v ≡ true
value_itself (values.Bool true) = refl
value_itself (values.Bool false) = refl
value_itself (values.Int a) = (Decides-int_eq a a).1 refl
value_itself (values.Text a) = (bytes_eq-Decides a a).1 refl
value_itself (values.Ints a) = same_ints a
value_itself (values.Texts a) = same_texts a

-- what is given, where it has the sort
or_first_value : (sort : Sort) (o : Option Value) (init : Value) → may_hold sort init ≡ true → may_hold sort (unwrap_or (as_sort sort o) init) ≡ true
or_first_value sort o init fits =
    by_option (as_sort sort o)
    (λ none. ap (λ w. may_hold sort (unwrap_or w init)) none ∙ fits)
    (λ v is. ap (λ w. may_hold sort (unwrap_or w init)) is ∙ sort_fits sort o v is)

-- a variable into which values come, or another
var_fits : (x : Var) (o : Option Value) (b : Bool) → may_hold x.sort x.init ≡ true
    → (may_hold x.sort (cond b (unwrap_or (as_sort x.sort o) x.init) x.init) && (b || same_value (cond b (unwrap_or (as_sort x.sort o) x.init) x.init) x.init)) ≡ true
var_fits x o true fits = and_from _ true (or_first_value x.sort o x.init fits) refl
var_fits x o false fits = and_from (may_hold x.sort x.init) _ fits (value_itself x.init)

pub launched_fit : (xs : List Var) (gs : List Given) → list_all (λ (x : Var). may_hold x.sort x.init) xs ≡ true → launch_fits xs (launch_values xs gs) ≡ true
launched_fit [] gs fits = refl
launched_fit (x ∷ xs) gs fits =
    let parts = and_parts (may_hold x.sort x.init) (list_all (λ (y : Var). may_hold y.sort y.init) xs) fits in
    and_from _ _ (var_fits x _ (comes_in x.usage) parts.0) (launched_fit xs gs parts.1)
