-- The number that a tree concludes is that of one of its rules.
use Rattle.std.specs.Prelude.{◌≡◌, ◌≤◌, ◌<◌, ℕ, zero, suc, ◌+◌, ◌-◌, ◌==◌, Bool, true, false, List, [], ◌∷◌, length, Some, None, slice_get, refl, if◌then◌else◌}
use Rattle.std.proofs.Common.{sym, ◌∙◌, ap, arith}
use Rattle.std.proofs.lemmas.Bool.{eqb-false}
use Rattle.yw_expr.specs.Tree.{Tree}
use Rattle.yw_state.proofs.MapLemmas.{by_test, nowhere, some_same}
use Rattle.yw_state.specs.RuleTree.{RuleTree, TreeRule, attached, attached_from, concluded, grown, grown_at, holds, if_rule, last_met, root, tree_of}
use Rattle.yw_state.specs.RuleTree.RuleTree.{leaf, node}
use Rattle.yw_state.specs.Values.{Row}

-- all numbers of the tree are at most m
abbrev IsWithin : ℕ → RuleTree → Type 0
IsWithin m leaf = Unit {0}
IsWithin m (node test k met unmet) = (k ≤ m) × IsWithin m met × IsWithin m unmet

module _ (m : ℕ) where
  grown_within : (tree : RuleTree) (test : Tree) (k : ℕ) → k ≤ m → IsWithin m tree → IsWithin m (grown tree test k)
  grown_within leaf test k most w = (most, tt, tt)
  grown_within (node c n met unmet) test k most w = w

  grown_at_within : (side : Bool) (tree : RuleTree) (test : Tree) (k : ℕ) → k ≤ m → IsWithin m tree → IsWithin m (grown_at side tree test k)
  grown_at_within true leaf test k most w = tt
  grown_at_within false leaf test k most w = tt
  grown_at_within true (node c n met unmet) test k most w = (w.0, grown_within met test k most w.1, w.2)
  grown_at_within false (node c n met unmet) test k most w = (w.0, w.1, grown_within unmet test k most w.2)

  attached_within : (tree : RuleTree) (at : ℕ) (side : Bool) (test : Tree) (k : ℕ) → k ≤ m → IsWithin m tree → IsWithin m (attached tree at side test k)
  attached_within leaf at side test k most w = tt
  attached_within (node c n met unmet) at side test k most w =
      elim (n == at) as (λ b. IsWithin m (if b then grown_at side (node c n met unmet) test k else node c n (attached met at side test k) (attached unmet at side test k))) [
        | true ↦ grown_at_within side (node c n met unmet) test k most w
        | false ↦ (w.0, attached_within met at side test k most w.1, attached_within unmet at side test k most w.2)
      ]

  all_within : (k : ℕ) (tree : RuleTree) (rs : List TreeRule) → k + length rs ≤ m + 1 → IsWithin m tree → IsWithin m (attached_from k tree rs)
  all_within k tree [] most w = w
  all_within k tree (r ∷ rs) most w = all_within (k + 1) (attached tree r.at r.side r.test k) rs (omega arith) (attached_within tree r.at r.side r.test k (omega arith) w)

  last_within : (tree : RuleTree) (row : Row) (last : ℕ) → last ≤ m → IsWithin m tree → last_met tree row last ≤ m
  last_within leaf row last most w = most
  last_within (node c k met unmet) row last most w =
      elim (holds c row) as (λ b. (if b then last_met met row k else last_met unmet row last) ≤ m) [
        | true ↦ last_within met row k w.0 w.1
        | false ↦ last_within unmet row last most w.2
      ]

element_at : {A : Type 0} (xs : List A) (i : ℕ) → i < length xs → (x : A) × (slice_get xs i ≡ Some x)
element_at [] i within = absurd (omega arith)
element_at (x ∷ xs) zero within = (x, refl)
element_at (x ∷ xs) (suc i) within = element_at xs i (omega arith)

some_rule : (n : ℕ) (k : ℕ) → if_rule n ≡ Some k → (n ≡ k) × (1 ≤ n)
some_rule n k e =
    by_test (n == 0)
    (λ b. nowhere (sym (ap (λ c. if c then None else Some n) b) ∙ e))
    (λ b. (some_same n k (sym (ap (λ c. if c then None else Some n) b) ∙ e), positive n (eqb-false n 0 b)))
  where
    positive : (a : ℕ) → ¬ (a ≡ 0) → 1 ≤ a
    positive a other = omega arith

-- the rule that is concluded
pub rule_concluded : (rs : List TreeRule) (row : Row) (k : ℕ) → concluded rs row ≡ Some k → (r : TreeRule) × (slice_get rs (k - 1) ≡ Some r)
rule_concluded rs row k e =
    let is = some_rule (last_met (tree_of rs) row 0) k e in
    let most : last_met (tree_of rs) row 0 ≤ length rs = last_within (length rs) (tree_of rs) row 0 (omega arith) (all_within (length rs) 1 root rs (omega arith) (omega arith, tt, tt)) in
    element_at rs (k - 1) (omega (arith, is.0, is.1))
