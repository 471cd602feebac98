-- The tokens of a net, taken from the front of the rows of all nets.
use Rattle.std.specs.Prelude.{◌≡◌, ◌≤◌, ◌==◌, ◌&&◌, ℕ, Bool, List, [], ◌∷◌, ◌++◌, length, drop, Option, Some, None, slice_get, if◌then◌else◌}
use Rattle.yw_spec.specs.declared.spec.Place.{Place}
use Rattle.yw_state.proofs.Entries.{IsIn}
use Rattle.yw_state.specs.Identity.{Ident, same}
use Rattle.yw_state.specs.Nets.{same_place}
use Rattle.yw_states.specs.declared.cases.TokenRow.{TokenRow}

-- the row is of this place of the net at j
abbrev pub is_of : Ident → Place → TokenRow → Bool
is_of j p r = same r.ident j && same_place r.place p

-- how many tokens are on the place by the row that comes next
abbrev pub count_of : Ident → Place → Option TokenRow → ℕ
count_of j p None = 0
count_of j p (Some r) = if is_of j p r then r.count else 0

abbrev pub first_of : List TokenRow → Option TokenRow
first_of [] = None
first_of (r ∷ rs) = Some r

abbrev pub further : List TokenRow → List TokenRow
further [] = []
further (r ∷ rs) = rs

-- where there are tokens, the row is taken
abbrev pub left_after : ℕ → List TokenRow → List TokenRow
left_after n rows = if n == 0 then rows else further rows

abbrev pub Taken : Type 0
Taken = List ℕ × List TokenRow

abbrev pub and_before : ℕ → Taken → Taken
and_before n t = (n ∷ t.0, t.1)

-- the counts of these places of the net at j, and the rows that are left
abbrev pub taken : Ident → List Place → List TokenRow → Taken
taken j [] rows = ([], rows)
taken j (p ∷ ps) rows = let n = count_of j p (first_of rows) in and_before n (taken j ps (left_after n rows))

-- The counts are those by the rows from this number on, and what is left begins at the other number.
pub record IsTaken (j : Ident) (ps : List Place) (rows : List TokenRow) (from : ℕ) (counts : List ℕ) (to : ℕ) : Type 0 where
  pub within : to ≤ length rows
  pub are : taken j ps (drop from rows) ≡ (counts, drop to rows)

-- no place comes twice
abbrev pub AreOnce : List Place → Type 0
AreOnce ps = (i k : ℕ) (p : Place) → slice_get ps i ≡ Some p → slice_get ps k ≡ Some p → i ≡ k

-- none of the rows is of the net at j
abbrev pub NoneOf : Ident → List TokenRow → Type 0
NoneOf j rows = (r : TokenRow) → IsIn rows r → r.ident ≡ j → ⊥
