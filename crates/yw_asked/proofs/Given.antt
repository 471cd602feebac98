-- What items are given has values, where no parameter's expression is undefined.
use Rattle.std.specs.Prelude.{◌≡◌, Bool, true, false, List, [], ◌∷◌, map, find, Option, Some, None, is_none, is_some, option_and_then, option_map, refl, cond, codes, if◌then◌else◌}
use Rattle.std.specs.List.{All}
use Rattle.std.proofs.Common.{sym, ◌∙◌, ap, subst}
use Rattle.std.proofs.lemmas.List.Elements.{All-cons, All-head, All-nil, All-tail}
use Rattle.yw_base.specs.declared.value.Value.{Value}
use Rattle.yw_expr.specs.Meaning.{val}
use Rattle.yw_expr.specs.Tree.{Tree}
use Rattle.yw_spec.specs.declared.task.Many.{Many}
use Rattle.yw_spec.specs.declared.task.Param.{Param}
use Rattle.yw_spec.specs.declared.task.Task.{Task}
use Rattle.yw_state.proofs.Tests.{map_some, never, nowhere, some_same, there}
use Rattle.yw_state.specs.Options.{all_of, is_some_and}
use Rattle.yw_state.specs.Passing.{elements_for, entry_values, given_values}
use Rattle.yw_state.specs.Values.{Row}
use Rattle.yw_asked.proofs.Unbroken.{some_of, unmapped}

-- ---- each of a list has one

module _ {A B : Type 0} (f : A → Option B) where
  not_first : (x : A) (xs : List A) (b : Bool) → cond b (Some x) (find (λ y. is_none (f y)) xs) ≡ None → (b ≡ false) × (find (λ y. is_none (f y)) xs ≡ None)
  not_first x xs true e = nowhere (sym e)
  not_first x xs false e = (refl, e)

  -- one more before those that there are
  first_there : (x : A) (xs : List A) (y : B) (ys : List B) → f x ≡ Some y → all_of (map f xs) ≡ Some ys → all_of (map f (x ∷ xs)) ≡ Some (y ∷ ys)
  first_there x xs y ys is are = ap (option_and_then (λ z. option_map (λ zs. z ∷ zs) (all_of (map f xs)))) is ∙ ap (option_map (λ (zs : List B). y ∷ zs)) are

  pub all_there : (xs : List A) → find (λ x. is_none (f x)) xs ≡ None → (ys : List B) × (all_of (map f xs) ≡ Some ys)
  all_there [] none = ([], refl)
  all_there (x ∷ xs) none =
      let parts = not_first x xs (is_none (f x)) none in
      let (y, is) = some_of (f x) parts.0 in
      let (ys, are) = all_there xs parts.1 in
      (y ∷ ys, first_there x xs y ys is are)

-- ---- elements

-- there is an element, where the task has a list
abbrev pub Feeds : Bool → Option Value → Type 0
Feeds listed o = listed ≡ true → is_some o ≡ true

all_some : (vs : List Value) → All (Feeds true) (map Some vs)
all_some [] = All-nil (Feeds true)
all_some (v ∷ vs) = All-cons (Feeds true) (Some v) (map Some vs) (λ e. refl) (all_some vs)

elements_feed : (row : Row) (many : Option Many) (es : List (Option Value)) → elements_for many row ≡ Some es → All (Feeds (is_some many)) es
elements_feed row None es e = subst (All (Feeds false)) (some_same (None ∷ []) es e) (All-cons (Feeds false) None [] (λ f. never f) (All-nil (Feeds false)))
elements_feed row (Some m) es e = let (v, is, made) = map_some _ (val m.each row) es e in subst (All (Feeds true)) made (all_some _)

-- ---- a task's items

-- as `given_values` has it
abbrev given : Row → Option Value → Option Tree → Option Value
given row element None = element
given row element (Some e) = val e row

-- a parameter without a value is given an element, so there is a list
abbrev IsFed : Bool → Param → Type 0
IsFed listed p = p.value ≡ None → listed ≡ true

-- as `undefined_in` has it
abbrev pub undefined : Row → Param → Bool
undefined row p = is_some_and p.value (λ e. is_none (val e row))

module _ (t : Task) (row : Row) (fed : All (IsFed (is_some t.many)) t.ins) where
  value_there : (o : Option Value) (value : Option Tree) → (value ≡ None → is_some o ≡ true) → is_some_and value (λ e. is_none (val e row)) ≡ false → (v : Value) × (given row o value ≡ Some v)
  value_there o None has defined = there o (has refl)
  value_there o (Some e) has defined = some_of (val e row) defined

  values_from : (o : Option Value) (ps : List Param) → Feeds (is_some t.many) o → All (IsFed (is_some t.many)) ps → find (undefined row) ps ≡ None
      → (vs : Row) × (all_of (map (λ (p : Param). given row o p.value) ps) ≡ Some vs)
  values_from o [] feeds has none = ([], refl)
  values_from o (p ∷ ps) feeds has none =
      let defined = not_found (undefined row p) none in
      let (v, is) = value_there o p.value (λ e. feeds (All-head (IsFed (is_some t.many)) p ps has e)) defined.0 in
      let (vs, are) = values_from o ps feeds (All-tail (IsFed (is_some t.many)) p ps has) defined.1 in
      (v ∷ vs, first_there (λ (q : Param). given row o q.value) p ps v vs is are)
    where
      not_found : (b : Bool) → cond b (Some p) (find (undefined row) ps) ≡ None → (b ≡ false) × (find (undefined row) ps ≡ None)
      not_found true e = nowhere (sym e)
      not_found false e = (refl, e)

  -- what one item is given
  pub values_there : (o : Option Value) → Feeds (is_some t.many) o → find (undefined row) t.ins ≡ None → (vs : Row) × (given_values t row o ≡ Some vs)
  values_there o feeds none = values_from o t.ins feeds fed none

  rows_from : (es : List (Option Value)) → All (Feeds (is_some t.many)) es → find (undefined row) t.ins ≡ None → (rows : List Row) × (all_of (map (given_values t row) es) ≡ Some rows)
  rows_from [] feeds none = ([], refl)
  rows_from (o ∷ os) feeds none =
      let (vs, is) = values_there o (All-head (Feeds (is_some t.many)) o os feeds) none in
      let (rows, are) = rows_from os (All-tail (Feeds (is_some t.many)) o os feeds) none in
      (vs ∷ rows, first_there (given_values t row) o os vs rows is are)

  -- what all items are given that an entry makes
  pub rows_there : (es : Option (List (Option Value))) → elements_for t.many row ≡ es → (if is_none es then Some (codes "each") else option_map (λ (p : Param). p.name) (find (undefined row) t.ins)) ≡ None
      → (rows : List Row) × (entry_values t row ≡ Some rows)
  rows_there None is defined = nowhere (sym defined)
  rows_there (Some es) is defined =
      let (rows, are) = rows_from es (elements_feed row t.many es is) (unmapped _ _ defined) in
      (rows, ap (option_and_then (λ os. all_of (map (given_values t row) os))) is ∙ are)
