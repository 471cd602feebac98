-- A set of which nothing is left has nothing.
use Rattle.indexmap.specs.IndexMap.{IndexMap}
use Rattle.std.proofs.Common.{ap, arith, sym, ◌∙◌}
use Rattle.std.proofs.lemmas.Slice.Eq.{bytes_eq-Decides}
use Rattle.std.specs.BTreeSet.{BTreeSet, contains}
use Rattle.std.specs.HashMap.{get, get_by}
use Rattle.std.specs.Ordering.{eq_by_cmp}
use Rattle.std.specs.Prelude.{◌≡◌, [], ◌∷◌, ℕ, cond, false, length, List, None, refl, Some}
use Rattle.std.specs.Str.{bytes_eq}
use Rattle.yw_state.proofs.Tests.{by_test}
use Rattle.yw_state.specs.Identity.{Ident}
use Rattle.yw_state.specs.Map.{lexical}
use Rattle.yw_worklist.specs.Pools.{in_set, is_in}

module _ {S : Type 0} (old new : IndexMap (List ℕ) (BTreeSet Ident) S) (by : List ℕ) (id : Ident) (set left : BTreeSet Ident)
    (was : get_by (bytes_eq by) old ≡ Some set)
    (taken : (q : List ℕ) → get bytes_eq new q ≡ cond (bytes_eq by q) None (get bytes_eq old q))
    (fewer : (j : Ident) → contains lexical left j ≡ cond (eq_by_cmp lexical id j) false (contains lexical set j))
    (empty : (j : Ident) → contains lexical left j ≡ false) where
  pub emptied : (q : List ℕ) (j : Ident)
      → is_in bytes_eq new q j ≡ cond (bytes_eq by q) (cond (eq_by_cmp lexical id j) false (is_in bytes_eq old q j)) (is_in bytes_eq old q j)
  emptied q j = by_test (bytes_eq by q)
      (λ is.
      let same : by ≡ q = (bytes_eq-Decides by q).0 is in
      let had : get bytes_eq old q ≡ Some set = ap (λ k. get_by (bytes_eq k) old) (sym same) ∙ was in
      ap (λ o. in_set o j) (taken q ∙ ap (λ b. cond b None (get bytes_eq old q)) is)
      ∙ sym (ap (λ b. cond b (cond (eq_by_cmp lexical id j) false (is_in bytes_eq old q j)) (is_in bytes_eq old q j)) is
      ∙ ap (λ o. cond (eq_by_cmp lexical id j) false (in_set o j)) had ∙ sym (fewer j) ∙ empty j))
      (λ other.
      ap (λ o. in_set o j) (taken q ∙ ap (λ b. cond b None (get bytes_eq old q)) other)
      ∙ sym (ap (λ b. cond b (cond (eq_by_cmp lexical id j) false (is_in bytes_eq old q j)) (is_in bytes_eq old q j)) other))

of_keys : (ks : List Ident) → length ks ≡ 0 → (j : Ident) → contains lexical (record { keys = ks }) j ≡ false
of_keys [] e j = refl
of_keys (k ∷ ks) e j = absurd (omega (arith, e))

pub none_in : (set : BTreeSet Ident) → length set.keys ≡ 0 → (j : Ident) → contains lexical set j ≡ false
none_in set e j = of_keys set.keys e j
