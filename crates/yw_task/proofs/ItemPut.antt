-- Items that are put in a state: one value more of its map for each.
use Rattle.std.proofs.Common.{List, [], ap, arith, length, length-append, refl, ℕ, ◌+◌, ◌∙◌, ◌∷◌, ◌≡◌}
use Rattle.std.specs.List.{range_with_len, zip}
use Rattle.std.specs.Prelude.{fold}
use Rattle.yw_state.specs.After.{add_item, new_item, put, with_sites}
use Rattle.yw_state.specs.Identity.{Ident}
use Rattle.yw_base.specs.Identity.{child}
use Rattle.yw_state.specs.Map.{insert}
use Rattle.yw_state.specs.State.{Site, Sites, State, TaskAt}
use Rattle.yw_state.specs.Values.{Row}
use Rattle.yw_state.specs.declared.part.Checks.{Checks}

-- ---- identities with one number behind

pub child_same : (i : Ident) (m n : ℕ) → child i m ≡ child i n → m ≡ n
child_same [] m n e = cc
child_same (x ∷ i) m n e =
    let longer : (x ∷ child i m) ≡ (x ∷ child i n) = e in
    let rest : child i m ≡ child i n = cc in
    child_same i m n rest

pub not_child : (i : Ident) (n : ℕ) → i ≡ child i n → ⊥
not_child i n e = let l : length i ≡ length i + 1 = ap length e ∙ length-append i (n ∷ []) in absurd (omega arith)

-- ---- values with a number each, one after another
module _ (i : Ident) (coming : Row → Site) where
  abbrev pub put_all : ℕ → List Row → Sites → Sites
  put_all first [] m = m
  put_all first (given ∷ rows) m = put_all (first + 1) rows (insert m (child i first) (coming given))

-- each item of a task that comes is one
pub items_put : (x : TaskAt) (i : Ident) (due : Checks) (rows : List Row) (first : ℕ) (s : State)
    → fold (add_item x i due) s (zip (range_with_len first (length rows)) rows) ≡ with_sites s (put_all i (λ given. new_item x.number given due) first rows s.sites)
items_put x i due [] first s = refl
items_put x i due (given ∷ rows) first s = items_put x i due rows (first + 1) (put s (child i first) (new_item x.number given due))
