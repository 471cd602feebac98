-- Finite maps as lists of entries in the order of their keys, which compute. Our own.
use Rattle.std.specs.Prelude.{ℕ, ◌≡◌, Bool, true, false, not, T, List, [], ◌∷◌, map, Option, Some, None, is_some, refl}
use Rattle.std.specs.Ordering.{nat_cmp, eq_by_cmp}
use Rattle.std.specs.Cmp.Lexicographic.{slice_cmp}
use Rattle.std.specs.declared.cmp.Ordering.{Ordering}
use Rattle.std.specs.FinMap.Entries.{find, put, where_key, is_sorted, is_sorted-where_key}
use Rattle.std.proofs.Common.{sym, subst}

-- entries whose keys strictly rise
pub record Map {K : Type 0} (R : K → K → Ordering) (A : Type 0) : Type 0 where
  pub list : List (K × A)
  pub sorted : T (is_sorted R list)

-- names in byte order, and identities number by number, a front first
abbrev pub lexical : List ℕ → List ℕ → Ordering
lexical = slice_cmp nat_cmp

-- lists of names, name by name
abbrev pub lexical_each : List (List ℕ) → List (List ℕ) → Ordering
lexical_each = slice_cmp lexical

module _ {K A : Type 0} {R : K → K → Ordering} where
  abbrev pub entries : Map R A → List (K × A)
  entries m = m.list

  abbrev pub empty : Map R A
  empty = record { list = []; sorted = tt }

  -- the entries as a map, where they are sorted; they always are
  abbrev pub of_sorted : (es : List (K × A)) (b : Bool) → is_sorted R es ≡ b → Map R A → Map R A
  of_sorted es true e m = record { list = es; sorted = subst T (sym e) tt }
  of_sorted es false e m = m

  abbrev pub get : Map R A → K → Option A
  get m k = find R k m.list

  abbrev pub has_key : Map R A → K → Bool
  has_key m k = is_some (get m k)

  -- this value at the key
  abbrev pub insert : Map R A → K → A → Map R A
  insert m k v = of_sorted (put R k v m.list) _ refl m

  -- these at their keys; of two at one key the first one counts
  abbrev pub of_entries : List (K × A) → Map R A
  of_entries [] = empty
  of_entries (e ∷ es) = insert (of_entries es) e.0 e.1

  -- the entries whose keys pass
  abbrev pub retain : Map R A → (K → Bool) → Map R A
  retain m p = record { list = where_key R p m.list; sorted = is_sorted-where_key R p m.list m.sorted }

  abbrev pub remove : Map R A → K → Map R A
  remove m k = retain m (λ q. not (eq_by_cmp R k q))

  abbrev updated : Map R A → K → (A → A) → Option A → Map R A
  updated m k f None = m
  updated m k f (Some v) = insert m k (f v)

  -- the value at the key, where one is there, is changed
  abbrev pub update : Map R A → K → (A → A) → Map R A
  update m k f = updated m k f (get m k)

  abbrev pub keys : Map R A → List K
  keys m = map (λ e. e.0) m.list
