-- What assignments leave fits: over a row of the sorts of which they speak, each gives a value that its variable may hold.
use Rattle.std.specs.Prelude.{◌≡◌, ◌≤◌, ◌+◌, ℕ, ℤ, zero, suc, true, List, [], ◌∷◌, ◌++◌, map, length, Option, Some, None, is_some, option_map, slice_get, slice_set, unwrap_or, refl}
use Rattle.std.specs.List.{All, cons_option, enumerate_from, filter_map, list_all}
use Rattle.std.proofs.Common.{sym, ◌∙◌, ap, arith}
use Rattle.std.proofs.lemmas.Bool.{and_from, and_parts, le-leb}
use Rattle.std.proofs.lemmas.List.Elements.{All-head, All-tail}
use Rattle.yw_accept.specs.Scopes.{gathered, is_single}
use Rattle.yw_base.specs.Values.{is_short, may_hold, most_elements, zero_of}
use Rattle.yw_base.specs.declared.value.Sort.{Sort}
use Rattle.yw_base.specs.declared.value.Sort.TheVariants as sorts
use Rattle.yw_base.specs.declared.value.Value.{Value}
use Rattle.yw_base.specs.declared.value.Value.TheVariants as values
use Rattle.yw_expr.specs.Meaning.{val}
use Rattle.yw_expr.specs.Small.{HasSmallConstants}
use Rattle.yw_sound.proofs.Giving.{gives_fits, holds, vals_hold, zero_fits}
use Rattle.yw_sound.specs.Sound.{Assigns, HasSmallAssigns, set_sorts}
use Rattle.yw_spec.specs.declared.spec.Net.{Net}
use Rattle.yw_spec.specs.declared.spec.Var.{Var}
use Rattle.yw_spec.specs.declared.task.Assign.{Assign}
use Rattle.yw_spec.specs.declared.task.Many.{Many}
use Rattle.yw_spec.specs.declared.task.Param.{Param}
use Rattle.yw_spec.specs.declared.task.Task.{Task}
use Rattle.yw_state.proofs.MapLemmas.{never, nowhere, some_same}
use Rattle.yw_state.specs.Passing.{int_in, kept_values, list_of, out_value, row_fits, set_row, text_in}
use Rattle.yw_state.specs.Values.{Row}
use Rattle.yw_state.specs.Well.{vals_fit}

-- ---- as `kept_values` and `set_row` tell what is made of values

abbrev assigned_all : Row → Row → List Assign → Row
assigned_all over row [] = row
assigned_all over row (a ∷ set) = assigned_all over (unwrap_or (option_map (slice_set row a.var) (val a.value over)) row) set

-- ---- what is assigned

set_fits : (xs : List Var) (row : Row) (k : ℕ) (v : Value) → vals_fit xs row ≡ true → ((x : Var) → slice_get xs k ≡ Some x → may_hold x.sort v ≡ true) → vals_fit xs (slice_set row k v) ≡ true
set_fits [] [] k v e h = refl
set_fits [] (w ∷ row) k v e h = never e
set_fits (x ∷ xs) [] k v e h = never e
set_fits (x ∷ xs) (w ∷ row) zero v e h = let parts = and_parts (may_hold x.sort w) (vals_fit xs row) e in and_from _ _ (h x refl) parts.1
set_fits (x ∷ xs) (w ∷ row) (suc k) v e h = let parts = and_parts (may_hold x.sort w) (vals_fit xs row) e in and_from _ _ parts.0 (set_fits xs row k v parts.1 h)

module _ (net : Net) (t : Task) (over : Row) (fit : holds (set_sorts net t) over ≡ true) where
  abbrev IsSmallAssign : Assign → Type 0
  IsSmallAssign a = HasSmallConstants a.value

  all_fit : (set : List Assign) → All (Assigns net t) set → All IsSmallAssign set → (row : Row) → vals_fit net.vars row ≡ true → vals_fit net.vars (assigned_all over row set) ≡ true
  all_fit [] right small row e = e
  all_fit (a ∷ set) right small row e = all_fit set (All-tail (Assigns net t) a set right) (All-tail IsSmallAssign a set small) _ (one (val a.value over) refl)
    where
      one : (o : Option Value) → val a.value over ≡ o → vals_fit net.vars (unwrap_or (option_map (slice_set row a.var) o) row) ≡ true
      one None is = e
      one (Some v) is = set_fits net.vars row a.var v e (λ x at. gives_fits (set_sorts net t) over x.sort a.value (All-head (Assigns net t) a set right x at) (All-head IsSmallAssign a set small) fit v is)

-- ---- what items made, and the net's values

hold_both : (ss ts : List Sort) (xs ys : Row) → holds ss xs ≡ true → holds ts ys ≡ true → holds (ss ++ ts) (xs ++ ys) ≡ true
hold_both [] ts [] ys e f = f
hold_both [] ts (v ∷ xs) ys e f = never e
hold_both (s ∷ ss) ts [] ys e f = never e
hold_both (s ∷ ss) ts (v ∷ xs) ys e f = let parts = and_parts (may_hold s v) (holds ss xs) e in and_from _ _ parts.0 (hold_both ss ts xs ys parts.1 f)

-- the value with a number is of its parameter
value_at : (ps : List Param) (row : Row) (k : ℕ) (p : Param) (v : Value) → row_fits ps row ≡ true → slice_get ps k ≡ Some p → slice_get row k ≡ Some v → may_hold p.sort v ≡ true
value_at [] row k p v e at is = nowhere at
value_at (q ∷ ps) [] k p v e at is = never e
value_at (q ∷ ps) (w ∷ row) zero p v e at is =
    ap (λ (x : Param). may_hold x.sort v) (sym (some_same q p at)) ∙ ap (may_hold q.sort) (sym (some_same w v is)) ∙ (and_parts (may_hold q.sort w) (row_fits ps row) e).0
value_at (q ∷ ps) (w ∷ row) (suc k) p v e at is = value_at ps row k p v (and_parts (may_hold q.sort w) (row_fits ps row) e).1 at is

column_fits : (ps : List Param) (k : ℕ) (p : Param) → slice_get ps k ≡ Some p → (rows : List Row) → list_all (row_fits ps) rows ≡ true → list_all (may_hold p.sort) (filter_map (λ (row : Row). slice_get row k) rows) ≡ true
column_fits ps k p at [] e = refl
column_fits ps k p at (row ∷ rows) e =
    let parts = and_parts (row_fits ps row) (list_all (row_fits ps) rows) e in
    with_value _ (slice_get row k) (λ v is. value_at ps row k p v parts.0 at is) (column_fits ps k p at rows parts.1)
  where
    with_value : (vs : Row) (o : Option Value) → ((v : Value) → o ≡ Some v → may_hold p.sort v ≡ true) → list_all (may_hold p.sort) vs ≡ true → list_all (may_hold p.sort) (cons_option o vs) ≡ true
    with_value vs None fits rest = rest
    with_value vs (Some v) fits rest = and_from _ _ (fits v refl) rest

longer : {A : Type 0} (o : Option A) (xs : List A) (n : ℕ) → length xs ≤ n → length (cons_option o xs) ≤ n + 1
longer None xs n e = omega (arith, e)
longer (Some x) xs n e = omega (arith, e)

no_more_found : {A B : Type 0} (g : A → Option B) (xs : List A) → length (filter_map g xs) ≤ length xs
no_more_found g [] = omega arith
no_more_found g (x ∷ xs) = let more = longer (g x) (filter_map g xs) (length xs) (no_more_found g xs) in omega (arith, more)

texts_short : (vs : Row) → list_all (may_hold sorts.Text) vs ≡ true → list_all is_short (filter_map text_in vs) ≡ true
texts_short [] e = refl
texts_short (values.Text t ∷ vs) e = let parts = and_parts (is_short t) (list_all (may_hold sorts.Text) vs) e in and_from _ _ parts.0 (texts_short vs parts.1)
texts_short (v ∷ vs) e = texts_short vs (and_parts (may_hold sorts.Text v) (list_all (may_hold sorts.Text) vs) e).1

list_fits : (sort : Sort) (vs : Row) → is_single sort ≡ true → length vs ≤ most_elements → list_all (may_hold sort) vs ≡ true → may_hold (gathered true sort) (list_of sort vs) ≡ true
list_fits sorts.Int vs single few e = let less = no_more_found int_in vs in le-leb _ _ (omega (arith, few, less))
list_fits sorts.Text vs single few e = let less = no_more_found text_in vs in and_from _ _ (le-leb _ _ (omega (arith, few, less))) (texts_short vs e)
list_fits sort vs single few e = never single

module _ (t : Task) (rows : List Row) (few : length rows ≤ most_elements) (gathers : is_some t.many ≡ true → list_all (λ (p : Param). is_single p.sort) t.outs ≡ true) (made : list_all (row_fits t.outs) rows ≡ true) where
  single_at : (ps : List Param) (k : ℕ) (p : Param) → list_all (λ (q : Param). is_single q.sort) ps ≡ true → slice_get ps k ≡ Some p → is_single p.sort ≡ true
  single_at [] k p e at = nowhere at
  single_at (q ∷ ps) zero p e at = ap (λ (x : Param). is_single x.sort) (sym (some_same q p at)) ∙ (and_parts (is_single q.sort) (list_all (λ (r : Param). is_single r.sort) ps) e).0
  single_at (q ∷ ps) (suc k) p e at = single_at ps k p (and_parts (is_single q.sort) (list_all (λ (r : Param). is_single r.sort) ps) e).1 at

  out_fits : (many : Option Many) (sort : Sort) (vs : Row) → (is_some many ≡ true → is_single sort ≡ true) → length vs ≤ most_elements → list_all (may_hold sort) vs ≡ true → may_hold (gathered (is_some many) sort) (out_value many sort vs) ≡ true
  out_fits (Some m) sort vs single less e = list_fits sort vs (single refl) less e
  out_fits None sort [] single less e = zero_fits sort
  out_fits None sort (v ∷ vs) single less e = (and_parts (may_hold sort v) (list_all (may_hold sort) vs) e).0

  abbrev out_of : ℕ × Param → Value
  out_of e = out_value t.many e.1.sort (filter_map (λ (row : Row). slice_get row e.0) rows)

  outs_from : (n : ℕ) (ps : List Param) → ((j : ℕ) (p : Param) → slice_get ps j ≡ Some p → slice_get t.outs (n + j) ≡ Some p)
      → holds (map (λ (p : Param). gathered (is_some t.many) p.sort) ps) (map out_of (enumerate_from n ps)) ≡ true
  outs_from n [] within = refl
  outs_from n (p ∷ ps) within =
      let here : n + 0 ≡ n = omega arith in
      let at : slice_get t.outs n ≡ Some p = ap (slice_get t.outs) (sym here) ∙ within zero p refl in
      let less = no_more_found (λ (row : Row). slice_get row n) rows in
      and_from _ _
      (out_fits t.many p.sort (filter_map (λ (row : Row). slice_get row n) rows) (λ many. single_at t.outs n p (gathers many) at) (omega (arith, few, less)) (column_fits t.outs n p at rows made))
      (outs_from (n + 1) ps (λ j q e. let same : n + 1 + j ≡ n + suc j = omega arith in ap (slice_get t.outs) same ∙ within (suc j) q e))

  -- the net's values, once the assignments are made
  pub kept_fit : (net : Net) (row : Row) → All (Assigns net t) t.set → HasSmallAssigns t → vals_fit net.vars row ≡ true → vals_fit net.vars (kept_values t rows row) ≡ true
  kept_fit net row right small e =
      all_fit net t (set_row t rows row)
      (hold_both (map (λ (p : Param). gathered (is_some t.many) p.sort) t.outs) (map (λ (x : Var). x.sort) net.vars) (map out_of (enumerate_from 0 t.outs)) row (outs_from 0 t.outs (λ j p at. ap (slice_get t.outs) (omega arith) ∙ at)) (vals_hold net.vars row e))
      t.set right small row e
