-- How many levels down nets are, told from what is above them.
use Rattle.std.specs.Prelude.{◌≡◌, ◌≤◌, ℕ, ◌+◌, zero, suc, true, false, List, [], ◌∷◌, ◌++◌, length, refl, if◌then◌else◌}
use Rattle.std.proofs.Common.{sym, ◌∙◌, ap, subst, arith, append_assoc}
use Rattle.yw_state.proofs.MapLemmas.{by_test}
use Rattle.yw_state.proofs.Under.{shorter}
use Rattle.yw_state.specs.Identity.{Ident}
use Rattle.yw_base.specs.Identity.{child, parent}
use Rattle.yw_state.specs.State.{State}
use Rattle.yw_state.specs.Well.{is_nested, level_from, net_level}

module _ (s : State) where
  -- the last number: one level more than above it, or the first
  last_level : (i : Ident) (k n : ℕ) (js : List ℕ) → level_from s i k (n ∷ js) ≡ (if is_nested s (i ++ n ∷ js) then level_from s i k (parent (n ∷ js)) + 1 else 1)
  last_level i k n [] = refl
  last_level i k n (m ∷ js) =
      let here = child i n in
      let now = if is_nested s here then k + 1 else 1 in
      last_level here now m js ∙ ap (λ j. if is_nested s j then level_from s here now (parent (m ∷ js)) + 1 else 1) (append_assoc i (n ∷ []) (m ∷ js))

  pub level_outer : (j : Ident) → is_nested s j ≡ false → net_level s j ≡ 1
  level_outer [] outer = refl
  level_outer (n ∷ js) outer = last_level [] 1 n js ∙ ap (λ b. if b then net_level s (parent (n ∷ js)) + 1 else 1) outer

  pub level_nested : (j : Ident) → 1 ≤ length j → is_nested s j ≡ true → net_level s j ≡ net_level s (parent j) + 1
  level_nested [] some nested = absurd (omega arith)
  level_nested (n ∷ js) some nested = last_level [] 1 n js ∙ ap (λ b. if b then net_level s (parent (n ∷ js)) + 1 else 1) nested

  pub level_counts : (j : Ident) → 1 ≤ net_level s j
  level_counts [] = omega arith
  level_counts (n ∷ js) =
      by_test (is_nested s (n ∷ js))
      (λ nested. subst (λ l. 1 ≤ l) (sym (level_nested (n ∷ js) (omega arith) nested)) (omega arith))
      (λ outer. subst (λ l. 1 ≤ l) (sym (level_outer (n ∷ js) outer)) (omega arith))

-- The same items are of composite tasks, at j and at what is above it as far as they are: the net is as many levels down.
module _ (s t : State) (Kept : Ident → Type 0) (same : (j : Ident) → Kept j → is_nested t j ≡ is_nested s j)
    (up : (j : Ident) → Kept j → is_nested s j ≡ true → Kept (parent j)) where
  level_within : (m : ℕ) (j : Ident) → length j ≤ m → Kept j → net_level t j ≡ net_level s j
  level_within m [] short kept = refl
  level_within zero (n ∷ js) short kept = absurd (omega (arith, short))
  level_within (suc m) (n ∷ js) short kept =
      let j : Ident = n ∷ js in
      by_test (is_nested s j)
      (λ nested.
      let longer = shorter j (omega arith) in
      level_nested t j (omega arith) (same j kept ∙ nested)
      ∙ ap (λ l. l + 1) (level_within m (parent j) (omega (arith, longer, short)) (up j kept nested))
      ∙ sym (level_nested s j (omega arith) nested))
      (λ outer. level_outer t j (same j kept ∙ outer) ∙ sym (level_outer s j outer))

  -- so it fits as before
  pub deep_as_before : (j : Ident) → Kept j → length j ≤ 30 + net_level s j → length j ≤ 30 + net_level t j
  deep_as_before j kept fits = subst (λ l. length j ≤ 30 + l) (sym (level_within (length j) j (omega arith) kept)) fits

-- The same items are of composite tasks everywhere.
pub deep_alike : (s t : State) → ((j : Ident) → is_nested t j ≡ is_nested s j) → (j : Ident) → length j ≤ 30 + net_level s j → length j ≤ 30 + net_level t j
deep_alike s t same j fits = deep_as_before s t (λ k. Unit {0}) (λ k kept. same k) (λ k kept nested. tt) j tt fits
