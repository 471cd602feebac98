-- How cases ended, number by number.
use Rattle.std.proofs.Common.{◌≡◌, ◌∙◌, ◌≤◌, ◌<◌, ◌==◌, ◌∷◌, [], ℕ, Bool, true, false, List, T, Some, map, ap, cond, if◌then◌else◌, refl, subst, sym}
use Rattle.std.proofs.lemmas.Bool.{eq-eqb, eqb-true}
use Rattle.std.specs.FinMap.Entries.{below_all, find, is_sorted}
use Rattle.std.specs.Ordering.{eq_by_cmp, nat_cmp}
use Rattle.yw_restore.proofs.Below.{above_number, each_element, level, none_level, of_number}
use Rattle.yw_restore.specs.Gathers.{AreDrawn, row_if_ended}
use Rattle.yw_sites.proofs.Picked.{halves}
use Rattle.yw_sites.specs.Idents.{Each}
use Rattle.yw_state.proofs.Entries.{find-entry}
use Rattle.yw_state.proofs.MapLemmas.{apart, by_number, tied_self}
use Rattle.yw_state.proofs.Tests.{by_test, never}
use Rattle.yw_state.specs.Map.{Map, entries}
use Rattle.yw_state.specs.declared.part.Way.{Way}
use Rattle.yw_states.specs.States.{ended_row}
use Rattle.yw_states.specs.declared.cases.EndedRow.{EndedRow}

abbrev row : ℕ → Way → EndedRow
row n way = record { case = n; way = way }

-- those at a number are the one that is found there
pub found_level : (n : ℕ) (es : List (ℕ × Way)) → T (is_sorted nat_cmp es) → map ended_row (level of_number n es) ≡ row_if_ended n (find nat_cmp n es)
found_level n [] sorted = refl
found_level n (e ∷ es) sorted =
    let p = halves (below_all nat_cmp e.0 es) (is_sorted nat_cmp es) sorted in
    let others = level of_number n es in
    let found = find nat_cmp n es in
    by_test (e.0 == n)
    (λ t.
    let same : e.0 ≡ n = eqb-true e.0 n t in
    let above : Each (λ (f : ℕ × Way). n < of_number f) es = subst (λ (k : ℕ). Each (λ (f : ℕ × Way). k < of_number f) es) same
    (above_number e.0 es p.0) in
    let tie : eq_by_cmp nat_cmp n e.0 ≡ true = subst (λ (k : ℕ). eq_by_cmp nat_cmp k e.0 ≡ true) same (tied_self by_number e.0) in
    ap (λ (b : Bool). map ended_row (if b then e ∷ others else others)) t
    ∙ ap (λ z. row e.0 e.1 ∷ map ended_row z) (none_level of_number n es above) ∙ ap (λ (k : ℕ). row k e.1 ∷ []) same
    ∙ sym (ap (λ (b : Bool). row_if_ended n (cond b (Some e.1) found)) tie))
    (λ f.
    let other : eq_by_cmp nat_cmp n e.0 ≡ false = apart by_number n e.0 (λ same. never (sym f ∙ eq-eqb e.0 n (sym same))) in
    ap (λ (b : Bool). map ended_row (if b then e ∷ others else others)) f ∙ found_level n es p.1
    ∙ sym (ap (λ (b : Bool). row_if_ended n (cond b (Some e.1) found)) other))

module _ (next : ℕ) (m : Map nat_cmp Way) (drawn : AreDrawn next m) where
  pub ended_from : Each (λ (e : ℕ × Way). 1 ≤ of_number e) (entries m)
  ended_from = each_element _ (entries m) (λ e within. (drawn e.0 e.1 (find-entry by_number (entries m) e m.sorted within)).0)

  pub ended_to : Each (λ (e : ℕ × Way). of_number e < next) (entries m)
  ended_to = each_element _ (entries m) (λ e within. (drawn e.0 e.1 (find-entry by_number (entries m) e m.sorted within)).1)
