-- Counts that are taken place by place.
use Rattle.std.proofs.Common.{◌≡◌, ◌≤◌, ◌<◌, ◌==◌, ◌+◌, ℕ, zero, suc, Bool, true, false, List, [], ◌∷◌, ◌++◌, length, drop, Option, Some, None, refl, sym, ap, ◌∙◌, append_assoc, arith, if◌then◌else◌}
use Rattle.std.specs.Prelude.{slice_get}
use Rattle.yw_revive.specs.Taken.{Taken, and_before, count_of, first_of, further, left_after, taken}
use Rattle.yw_spec.specs.declared.spec.Place.{Place}
use Rattle.yw_state.specs.Identity.{Ident}
use Rattle.yw_states.specs.declared.cases.TokenRow.{TokenRow}

-- these counts, and those after them
abbrev pub onto : List ℕ → Taken → Taken
onto counts t = (counts ++ t.0, t.1)

one_more : (counts : List ℕ) (n : ℕ) (t : Taken) → onto counts (and_before n t) ≡ onto (counts ++ n ∷ []) t
one_more counts n t = ap (λ (l : List ℕ). (l, t.1)) (sym (append_assoc counts (n ∷ []) t.0))

pub first_at : (rows : List TokenRow) (k : ℕ) → first_of (drop k rows) ≡ slice_get rows k
first_at [] zero = refl
first_at [] (suc k) = refl
first_at (r ∷ rs) zero = refl
first_at (r ∷ rs) (suc k) = first_at rs k

pub further_at : (rows : List TokenRow) (k : ℕ) → further (drop k rows) ≡ drop (suc k) rows
further_at [] zero = refl
further_at [] (suc k) = refl
further_at (r ∷ rs) zero = refl
further_at (r ∷ rs) (suc k) = further_at rs k
