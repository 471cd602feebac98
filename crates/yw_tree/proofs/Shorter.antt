-- What leads to an identity, and what leads to the one without its last number.
use Rattle.std.proofs.Common.{ap, arith, false, length, sym, true, ⊎_elim, ◌<◌, ◌∙◌, ◌≡◌, ◌≤◌}
use Rattle.std.proofs.lemmas.Bool.{cases_lt}
use Rattle.yw_base.specs.Identity.{under, parent}
use Rattle.yw_sites.proofs.Prefix.{child_length, child_under, same_refl, under_compare, under_length, under_refl, under_same}
use Rattle.yw_sites.specs.Idents.{IsChild}
use Rattle.yw_state.proofs.Tests.{never}
use Rattle.yw_state.specs.Identity.{Ident, same}
use Rattle.yw_tree.proofs.Parents.{parent_child, parent_length}

-- ---- the identity without its last number
module _ (id : Ident) (long : 1 ≤ length id) where
  pub under_its_parent : under id (parent id) ≡ true
  under_its_parent = child_under (parent id) id (parent_child id long)

  -- what leads to an identity and isn't longer than the one above it leads there too
  pub leads_above : (j : Ident) → under id j ≡ true → length j ≤ length (parent id) → under (parent id) j ≡ true
  leads_above j led short = under_compare id (parent id) j short under_its_parent led

  -- what leads to an identity and isn't it is no longer than the one above it
  pub above_or_same : (j : Ident) → under id j ≡ true → same j id ≡ false → length j ≤ length (parent id)
  above_or_same j led ne =
      ⊎_elim
      (λ (lt : length j < length id). let l = parent_length id in omega arith)
      (λ (le : length id ≤ length j).
      let most : length j ≤ length id = under_length id j led in
      let l : length id ≡ length j = omega arith in
      let s : id ≡ j = under_same id id j l (under_refl id) led in
      never (sym ne ∙ ap (λ z. same z id) (sym s) ∙ same_refl id))
      (cases_lt (length j) (length id))

  -- a child that is an identity stands under the one above it
  pub parent_of : (i : Ident) → IsChild i id → parent id ≡ i
  parent_of i c =
      let l = parent_length id in
      let k = child_length i id c in
      let same_length : length (parent id) ≡ length i = omega arith in
      under_same id (parent id) i same_length under_its_parent (child_under i id c)
