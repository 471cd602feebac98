-- Lists of what has names: what a table of numbers finds in them, and the map that such a list stands for.
use Rattle.std.proofs.Common.{◌≡◌, ◌⊎◌, inl, inr, ℕ, suc, zero, List, [], ◌∷◌, ◌++◌, length, Bool, true, false, cond, Option, Some, None, nat_cmp, refl, sym, ap, ◌∙◌}
use Rattle.std.specs.Prelude.{map, is_some, slice_get, slice_set}
use Rattle.std.specs.Cmp.Lexicographic.{slice_cmp}
use Rattle.std.specs.FinMap.{get, get-insert, insert}
use Rattle.std.specs.FinMap.Entries.{find}
use Rattle.std.specs.Ordering.{eq_by_cmp}
use Rattle.std.proofs.lemmas.Cmp.{nat_list_cmp_total}
use Rattle.std.proofs.lemmas.Map.Text.{is_eq-slice_cmp}
use Rattle.std.proofs.lemmas.Slice.Eq.{bytes_eq-Decides}
use Rattle.yw_state.specs.Map as maps
use Rattle.yw_state.specs.Map.{Map, has_key, lexical, of_entries}
use Rattle.yw_state.proofs.MapEntries.{get-of_entries}
use Rattle.yw_state.proofs.MapLemmas.{by_name}
use Rattle.yw_library.specs.Numbers.{NumberedNames, AreFound, NoneNamed, IsNumberOf}

-- ---- names that are the same

abbrev pub is_same : List ℕ → List ℕ → Bool
is_same = eq_by_cmp (slice_cmp nat_cmp)

pub same_from_true : (q name : List ℕ) → is_same q name ≡ true → q ≡ name
same_from_true q name e = (bytes_eq-Decides q name).0 (sym (is_eq-slice_cmp q name) ∙ e)

pub true_from_same : (q name : List ℕ) → q ≡ name → is_same q name ≡ true
true_from_same q name e = is_eq-slice_cmp q name ∙ (bytes_eq-Decides q name).1 e

pub apart_from_false : (q name : List ℕ) → is_same q name ≡ false → q ≡ name → ⊥
apart_from_false q name e same = let t = true_from_same q name same in cc

pub false_from_apart : (q name : List ℕ) → (q ≡ name → ⊥) → is_same q name ≡ false
false_from_apart q name apart = by (is_same q name) refl
  where
    by : (b : Bool) → is_same q name ≡ b → is_same q name ≡ false
    by true e = absurd (apart (same_from_true q name e))
    by false e = e

-- ---- the first that has a name

abbrev pub entry : {A V : Type 0} → (A → List ℕ) → (A → V) → A → List ℕ × V
entry named value x = (named x, value x)

abbrev pub found_in : {A V : Type 0} → (A → List ℕ) → (A → V) → List A → List ℕ → Option V
found_in named value xs name = find (slice_cmp nat_cmp) name (map (entry named value) xs)

-- this one has the name, and the look-up gives its value
pub record IsFirst {A V : Type 0} (named : A → List ℕ) (value : A → V) (xs : List A) (name : List ℕ) : Type 0 where
  pub place : ℕ
  pub one : A
  pub stands : slice_get xs place ≡ Some one
  pub has : named one ≡ name
  pub is : found_in named value xs name ≡ Some (value one)

-- no one has the name, and the look-up gives nothing
pub record IsMissing {A V : Type 0} (named : A → List ℕ) (value : A → V) (xs : List A) (name : List ℕ) : Type 0 where
  pub none : NoneNamed named xs name
  pub is : found_in named value xs name ≡ None

abbrev pub Looked : {A V : Type 0} → (A → List ℕ) → (A → V) → List A → List ℕ → Type 0
Looked named value xs name = IsMissing named value xs name ⊎ IsFirst named value xs name

none_with : {A : Type 0} (named : A → List ℕ) (x : A) (xs : List A) (name : List ℕ) → is_same name (named x) ≡ false → NoneNamed named xs name → NoneNamed named (x ∷ xs) name
none_with named x xs name e none zero y is h = let same : x ≡ y = cc in apart_from_false name (named x) e (sym h ∙ ap named (sym same))
none_with named x xs name e none (suc i) y is h = none i y is h

look_on : {A V : Type 0} (named : A → List ℕ) (value : A → V) (x : A) (xs : List A) (name : List ℕ) (b : Bool)
    → is_same name (named x) ≡ b → Looked named value xs name → Looked named value (x ∷ xs) name
look_on {A} {V} named value x xs name true e looked =
    inr (record { place = 0; one = x; stands = refl; has = sym (same_from_true name (named x) e); is = ap (λ (b : Bool). cond b (Some (value x)) (found_in named value xs name)) e })
look_on {A} {V} named value x xs name false e (inl missing) =
    inl (record { none = none_with named x xs name e missing.none; is = ap (λ (b : Bool). cond b (Some (value x)) (found_in named value xs name)) e ∙ missing.is })
look_on {A} {V} named value x xs name false e (inr first) =
    inr (record { place = suc first.place; one = first.one; stands = first.stands; has = first.has; is = ap (λ (b : Bool). cond b (Some (value x)) (found_in named value xs name)) e ∙ first.is })

pub looked : {A V : Type 0} (named : A → List ℕ) (value : A → V) (xs : List A) (name : List ℕ) → Looked named value xs name
looked named value [] name = inl (record { none = λ i x e h. cc; is = refl })
looked named value (x ∷ xs) name = look_on named value x xs name (is_same name (named x)) refl (looked named value xs name)

-- ---- the map that a list stands for

abbrev pub map_of : {A V : Type 0} → (A → List ℕ) → (A → V) → List A → Map lexical V
map_of named value xs = of_entries (map (entry named value) xs)

pub get-map_of : {A V : Type 0} (named : A → List ℕ) (value : A → V) (xs : List A) (name : List ℕ) → maps.get (map_of named value xs) name ≡ found_in named value xs name
get-map_of named value xs name = get-of_entries by_name (map (entry named value) xs) name

pub get_where_none : {A V : Type 0} (named : A → List ℕ) (value : A → V) (xs : List A) (name : List ℕ) → NoneNamed named xs name → maps.get (map_of named value xs) name ≡ None
get_where_none named value xs name none = get-map_of named value xs name ∙ by (looked named value xs name)
  where
    by : Looked named value xs name → found_in named value xs name ≡ None
    by (inl missing) = missing.is
    by (inr first) = absurd (none first.place first.one first.stands first.has)

pub get_where_found : {A V : Type 0} (named : A → List ℕ) (value : A → V) (xs : List A) (numbers : NumberedNames) (name : List ℕ) (i : ℕ) (x : A)
    → AreFound named xs numbers → slice_get xs i ≡ Some x → named x ≡ name → maps.get (map_of named value xs) name ≡ Some (value x)
get_where_found {A} named value xs numbers name i x found at has = get-map_of named value xs name ∙ by (looked named value xs name)
  where
    by : Looked named value xs name → found_in named value xs name ≡ Some (value x)
    by (inl missing) = absurd (missing.none i x at has)
    by (inr first) =
        let here = found.found i x at in
        let there = found.found first.place first.one first.stands in
        let names : named first.one ≡ named x = first.has ∙ sym has in
        let places : first.place ≡ i = cc in
        let same : first.one ≡ x = cc in
        first.is ∙ ap (λ (y : A). Some (value y)) same

pub key_where_none : {A V : Type 0} (named : A → List ℕ) (value : A → V) (xs : List A) (name : List ℕ) → NoneNamed named xs name → has_key (map_of named value xs) name ≡ false
key_where_none named value xs name none = ap is_some (get_where_none named value xs name none)

pub key_where_one : {A V : Type 0} (named : A → List ℕ) (value : A → V) (xs : List A) (name : List ℕ) (i : ℕ) → IsNumberOf named xs name (Some i) → has_key (map_of named value xs) name ≡ true
key_where_one named value xs name i one = by (looked named value xs name)
  where
    by : Looked named value xs name → has_key (map_of named value xs) name ≡ true
    by (inl missing) = absurd (missing.none i one.0 one.1 one.2)
    by (inr first) = ap is_some (get-map_of named value xs name ∙ first.is)

-- ---- the table

-- no one has the name, where the table's number for it is no one's that has it
pub none_from_table : {A : Type 0} (named : A → List ℕ) (xs : List A) (numbers : NumberedNames) (name : List ℕ) → AreFound named xs numbers
    → ((i : ℕ) (x : A) → get numbers name ≡ Some i → slice_get xs i ≡ Some x → named x ≡ name → ⊥) → NoneNamed named xs name
none_from_table named xs numbers name found apart i x at has = apart i x (ap (get numbers) (sym has) ∙ found.found i x at) at has

-- a number for a name that no one has changes nothing
pub found-stale : {A : Type 0} (named : A → List ℕ) (xs : List A) (numbers : NumberedNames) (name : List ℕ) (n : ℕ)
    → AreFound named xs numbers → NoneNamed named xs name → AreFound named xs (insert numbers name n)
found-stale named xs numbers name n found none = record {
  found = λ i x at. get-insert nat_list_cmp_total numbers name n (named x)
      ∙ ap (λ (b : Bool). cond b (Some n) (get numbers (named x))) (false_from_apart (named x) name (none i x at)) ∙ found.found i x at;
}

pub slice_get-push : {A : Type 0} (xs : List A) (x : A) (i : ℕ) (y : A) → slice_get (xs ++ x ∷ []) i ≡ Some y
    → (slice_get xs i ≡ Some y) ⊎ ((i ≡ length xs) × (x ≡ y))
slice_get-push [] x zero y at = inr (refl, cc)
slice_get-push [] x (suc i) y at = cc
slice_get-push (z ∷ xs) x zero y at = inl at
slice_get-push (z ∷ xs) x (suc i) y at = by (slice_get-push xs x i y at)
  where
    by : (slice_get xs i ≡ Some y) ⊎ ((i ≡ length xs) × (x ≡ y)) → (slice_get xs i ≡ Some y) ⊎ ((suc i ≡ suc (length xs)) × (x ≡ y))
    by (inl h) = inl h
    by (inr h) = inr (ap suc h.0, h.1)

-- one more, whose name no one has, with its number
pub found-push : {A : Type 0} (named : A → List ℕ) (xs : List A) (numbers : NumberedNames) (x : A)
    → AreFound named xs numbers → NoneNamed named xs (named x) → AreFound named (xs ++ x ∷ []) (insert numbers (named x) (length xs))
found-push {A} named xs numbers x found none = record { found = λ i y at. by i y (slice_get-push xs x i y at) }
  where
    by : (i : ℕ) (y : A) → (slice_get xs i ≡ Some y) ⊎ ((i ≡ length xs) × (x ≡ y)) → get (insert numbers (named x) (length xs)) (named y) ≡ Some i
    by i y (inl at) = (found-stale named xs numbers (named x) (length xs) found none).found i y at
    by i y (inr h) = get-insert nat_list_cmp_total numbers (named x) (length xs) (named y)
        ∙ ap (λ (b : Bool). cond b (Some (length xs)) (get numbers (named y))) (true_from_same (named y) (named x) (ap named (sym h.1))) ∙ ap Some (sym h.0)

pub slice_get-set : {A : Type 0} (xs : List A) (n : ℕ) (y : A) (i : ℕ) (z : A) → slice_get (slice_set xs n y) i ≡ Some z
    → (w : A) × (slice_get xs i ≡ Some w) × ((w ≡ z) ⊎ ((i ≡ n) × (y ≡ z)))
slice_get-set [] n y i z at = cc
slice_get-set (x ∷ xs) zero y zero z at = (x, refl, inr (refl, cc))
slice_get-set (x ∷ xs) zero y (suc i) z at = (z, at, inl refl)
slice_get-set (x ∷ xs) (suc n) y zero z at = (z, at, inl refl)
slice_get-set {A} (x ∷ xs) (suc n) y (suc i) z at = by (slice_get-set xs n y i z at)
  where
    by : (w : A) × (slice_get xs i ≡ Some w) × ((w ≡ z) ⊎ ((i ≡ n) × (y ≡ z))) → (w : A) × (slice_get xs i ≡ Some w) × ((w ≡ z) ⊎ ((suc i ≡ suc n) × (y ≡ z)))
    by (w, h, inl e) = (w, h, inl e)
    by (w, h, inr e) = (w, h, inr (ap suc e.0, e.1))

-- another of the same name in the place of one
pub found-set : {A : Type 0} (named : A → List ℕ) (xs : List A) (numbers : NumberedNames) (n : ℕ) (x y : A)
    → AreFound named xs numbers → slice_get xs n ≡ Some x → named x ≡ named y → AreFound named (slice_set xs n y) numbers
found-set {A} named xs numbers n x y found at has = record { found = λ i z h. by i z (slice_get-set xs n y i z h) }
  where
    by : (i : ℕ) (z : A) → (w : A) × (slice_get xs i ≡ Some w) × ((w ≡ z) ⊎ ((i ≡ n) × (y ≡ z))) → get numbers (named z) ≡ Some i
    by i z (w, h, inl e) = ap (λ (v : A). get numbers (named v)) (sym e) ∙ found.found i w h
    by i z (w, h, inr e) =
        let own = found.found n x at in
        let names : named x ≡ named z = has ∙ ap named e.1 in
        let places : i ≡ n = e.0 in
        cc
