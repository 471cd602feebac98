-- What a tree concludes with one rule more. Numbers rise on the way down a tree, so that no walk meets a node twice.
use Rattle.std.specs.Prelude.{◌≡◌, ◌≢◌, ◌≤◌, ◌<◌, ℕ, ◌+◌, ◌==◌, ◌&&◌, Bool, true, false, List, [], ◌∷◌, ◌++◌, length, None, Some, refl, if◌then◌else◌}
use Rattle.std.specs.Bool.{beq}
use Rattle.std.proofs.Common.{sym, ◌∙◌, ap, subst, arith}
use Rattle.std.proofs.lemmas.Bool.{eq-eqb, eqb-false, eqb-true}
use Rattle.yw_expr.specs.Tree.{Tree}
use Rattle.yw_state.proofs.Tests.{by_test}
use Rattle.yw_state.specs.RuleTree.{RuleTree, TreeRule, attached, attached_from, concluded, grown, grown_at, holds, if_rule, last_met, root, tree_of}
use Rattle.yw_state.specs.RuleTree.RuleTree.{leaf, node}
use Rattle.yw_state.specs.Values.{Row}
use Rattle.yw_rule_walk.specs.Walk.{comes_to, ends_at}

-- ---- numbers rise

-- from `low` on, and below `top`
abbrev Rises : ℕ → ℕ → RuleTree → Type 0
Rises low top leaf = Unit {0}
Rises low top (node c k met unmet) = (low ≤ k) × (k < top) × Rises (k + 1) top met × Rises (k + 1) top unmet

module _ (test : Tree) (k : ℕ) where
  more_room : (low top : ℕ) (tree : RuleTree) → top ≤ k → Rises low top tree → Rises low (k + 1) tree
  more_room low top leaf below rises = tt
  more_room low top (node c n met unmet) below (least, most, left, right) =
      (least, omega (arith, most, below), more_room (n + 1) top met below left, more_room (n + 1) top unmet below right)

  grown_rises : (low top : ℕ) (tree : RuleTree) → top ≤ k → low ≤ k → Rises low top tree → Rises low (k + 1) (grown tree test k)
  grown_rises low top leaf below least rises = (least, omega arith, tt, tt)
  grown_rises low top (node c n met unmet) below least rises = more_room low top (node c n met unmet) below rises

  -- at the node, or below it
  either_rises : (b side : Bool) (low top : ℕ) (c : Tree) (n : ℕ) (met unmet left_tree right_tree : RuleTree) → top ≤ k → Rises low top (node c n met unmet) → Rises (n + 1) (k + 1) left_tree → Rises (n + 1) (k + 1) right_tree
      → Rises low (k + 1) (if b then grown_at side (node c n met unmet) test k else node c n left_tree right_tree)
  either_rises true true low top c n met unmet lt rt below (least, most, left, right) l r =
      (least, omega (arith, most, below), grown_rises (n + 1) top met below (omega (arith, most, below)) left, more_room (n + 1) top unmet below right)
  either_rises true false low top c n met unmet lt rt below (least, most, left, right) l r =
      (least, omega (arith, most, below), more_room (n + 1) top met below left, grown_rises (n + 1) top unmet below (omega (arith, most, below)) right)
  either_rises false side low top c n met unmet lt rt below (least, most, left, right) l r = (least, omega (arith, most, below), l, r)

  attached_rises : (low top : ℕ) (tree : RuleTree) (at : ℕ) (side : Bool) → top ≤ k → Rises low top tree → Rises low (k + 1) (attached tree at side test k)
  attached_rises low top leaf at side below rises = tt
  attached_rises low top (node c n met unmet) at side below rises =
      either_rises (n == at) side low top c n met unmet (attached met at side test k) (attached unmet at side test k) below rises
      (attached_rises (n + 1) top met at side below rises.2) (attached_rises (n + 1) top unmet at side below rises.3)

all_rise : (k : ℕ) (tree : RuleTree) (rs : List TreeRule) → Rises 0 k tree → Rises 0 (k + length rs) (attached_from k tree rs)
all_rise k tree [] rises = subst (λ n. Rises 0 n tree) (omega arith) rises
all_rise k tree (r ∷ rs) rises =
    subst (λ n. Rises 0 n (attached_from (k + 1) (attached tree r.at r.side r.test k) rs)) (omega arith)
    (all_rise (k + 1) (attached tree r.at r.side r.test k) rs (attached_rises r.test k 0 k tree r.at r.side (omega arith) rises))

-- ---- a walk

other_number : (a b : ℕ) → a ≢ b → (a == b) ≡ false
other_number a b other = by_test (a == b) (λ e. absurd (other (eqb-true a b e))) (λ e. e)

no_and : (b : Bool) → (b && false) ≡ false
no_and true = refl
no_and false = refl

same_side : (b : Bool) → beq b b ≡ true
same_side true = refl
same_side false = refl

module _ (row : Row) (at : ℕ) (side : Bool) where
  -- as `comes_to` takes a step
  abbrev step : RuleTree → RuleTree → ℕ → Bool → Bool
  step met unmet n b = if b then comes_to met row n true at side else comes_to unmet row n false at side

  -- it comes to no node that isn't below where it begins
  passes_by : (low top : ℕ) (tree : RuleTree) → at < low → Rises low top tree → (p : ℕ) (from : Bool) → p ≢ at → comes_to tree row p from at side ≡ false
  passes_by low top leaf below rises p from other = ap (λ b. b && beq from side) (other_number p at other)
  passes_by low top (node c n met unmet) below (least, most, left, right) p from other =
      let differs : n ≢ at = λ e. omega (arith, below, least, e) in
      by_test (holds c row)
      (λ pass. ap (step met unmet n) pass ∙ passes_by (n + 1) top met (omega (arith, below, least)) left n true differs)
      (λ fail. ap (step met unmet n) fail ∙ passes_by (n + 1) top unmet (omega (arith, below, least)) right n false differs)

  module _ (test : Tree) (k : ℕ) where
    -- the new number where the walk comes to that side and the condition is met, and else as before
    abbrev answer : Bool → ℕ → ℕ
    answer comes before = if comes && holds test row then k else before

    -- at the side of the node itself
    grown_there : (top : ℕ) (tree : RuleTree) (last : ℕ) → Rises (at + 1) top tree → last_met (grown tree test k) row last ≡ answer (comes_to tree row at side at side) (last_met tree row last)
    grown_there top leaf last rises = sym (ap (λ b. answer (b && beq side side) last) (eq-eqb at at refl) ∙ ap (λ b. answer b last) (same_side side))
    grown_there top (node c n met unmet) last rises =
        sym (ap (λ b. answer b (last_met (node c n met unmet) row last)) (passes_by (at + 1) top (node c n met unmet) (omega arith) rises (at + 1) side (λ e. omega (arith, e))))

    -- at its other side
    other_side : (top : ℕ) (tree : RuleTree) (last : ℕ) (from : Bool) → beq from side ≡ false → Rises (at + 1) top tree → last_met tree row last ≡ answer (comes_to tree row at from at side) (last_met tree row last)
    other_side top leaf last from differs rises = sym (ap (λ b. answer ((at == at) && b) last) differs ∙ ap (λ b. answer b last) (no_and (at == at)))
    other_side top (node c n met unmet) last from differs rises =
        sym (ap (λ b. answer b (last_met (node c n met unmet) row last)) (passes_by (at + 1) top (node c n met unmet) (omega arith) rises (at + 1) side (λ e. omega (arith, e))))

-- at a node with this number
at_node : (row : Row) (test : Tree) (k : ℕ) (at : ℕ) (side : Bool) (top : ℕ) (c : Tree) (met unmet : RuleTree) (last : ℕ) → Rises (at + 1) top met → Rises (at + 1) top unmet
    → last_met (grown_at side (node c at met unmet) test k) row last ≡ answer row at side test k (comes_to (node c at met unmet) row at side at side) (last_met (node c at met unmet) row last)
at_node row test k at true top c met unmet last left right =
    by_test (holds c row)
    (λ pass. ap (λ b. if b then last_met (grown met test k) row at else last_met unmet row last) pass ∙ grown_there row at true test k top met at left
    ∙ sym (ap (λ b. answer row at true test k (step row at true met unmet at b) (if b then last_met met row at else last_met unmet row last)) pass))
    (λ fail. ap (λ b. if b then last_met (grown met test k) row at else last_met unmet row last) fail ∙ other_side row at true test k top unmet last false refl right
    ∙ sym (ap (λ b. answer row at true test k (step row at true met unmet at b) (if b then last_met met row at else last_met unmet row last)) fail))
at_node row test k at false top c met unmet last left right =
    by_test (holds c row)
    (λ pass. ap (λ b. if b then last_met met row at else last_met (grown unmet test k) row last) pass ∙ other_side row at false test k top met at true refl left
    ∙ sym (ap (λ b. answer row at false test k (step row at false met unmet at b) (if b then last_met met row at else last_met unmet row last)) pass))
    (λ fail. ap (λ b. if b then last_met met row at else last_met (grown unmet test k) row last) fail ∙ grown_there row at false test k top unmet last right
    ∙ sym (ap (λ b. answer row at false test k (step row at false met unmet at b) (if b then last_met met row at else last_met unmet row last)) fail))

module _ (row : Row) (test : Tree) (k at : ℕ) (side : Bool) where
  abbrev answered : RuleTree → ℕ → Bool → ℕ → ℕ
  answered tree p from last = answer row at side test k (comes_to tree row p from at side) (last_met tree row last)

  walk : (low top : ℕ) (tree : RuleTree) → Rises low top tree → (p : ℕ) (from : Bool) (last : ℕ) → p ≢ at → last_met (attached tree at side test k) row last ≡ answered tree p from last
  walk low top leaf rises p from last other = sym (ap (λ b. answer row at side test k (b && beq from side) last) (other_number p at other))
  walk low top (node c n met unmet) (least, most, left, right) p from last other =
      let below = λ (differs : n ≢ at). by_test (holds c row)
      (λ pass. ap (λ b. if b then last_met (attached met at side test k) row n else last_met (attached unmet at side test k) row last) pass ∙ walk (n + 1) top met left n true n differs
      ∙ sym (ap (λ b. answer row at side test k (step row at side met unmet n b) (if b then last_met met row n else last_met unmet row last)) pass))
      (λ fail. ap (λ b. if b then last_met (attached met at side test k) row n else last_met (attached unmet at side test k) row last) fail ∙ walk (n + 1) top unmet right n false last differs
      ∙ sym (ap (λ b. answer row at side test k (step row at side met unmet n b) (if b then last_met met row n else last_met unmet row last)) fail)) in
      by_test (n == at)
      (λ here.
      let same : n ≡ at = eqb-true n at here in
      ap (λ b. last_met (chosen c n met unmet b) row last) here
      ∙ subst (λ m. Rises (m + 1) top met → Rises (m + 1) top unmet → last_met (grown_at side (node c m met unmet) test k) row last ≡ answered (node c m met unmet) p from last) (sym same)
      (λ l r. at_node row test k at side top c met unmet last l r) left right)
      (λ els. ap (λ b. last_met (chosen c n met unmet b) row last) els ∙ below (eqb-false n at els))
    where
      chosen : Tree → ℕ → RuleTree → RuleTree → Bool → RuleTree
      chosen c n met unmet b = if b then grown_at side (node c n met unmet) test k else node c n (attached met at side test k) (attached unmet at side test k)

-- ---- the tree of rules

from_append : (k : ℕ) (tree : RuleTree) (rs : List TreeRule) (r : TreeRule) → attached_from k tree (rs ++ r ∷ []) ≡ attached (attached_from k tree rs) r.at r.side r.test (k + length rs)
from_append k tree [] r = ap (attached tree r.at r.side r.test) (omega arith)
from_append k tree (q ∷ rs) r = from_append (k + 1) (attached tree q.at q.side q.test k) rs r ∙ ap (attached (attached_from (k + 1) (attached tree q.at q.side q.test k) rs) r.at r.side r.test) (omega arith)

-- a tree of rules has node 0, from which its walk goes on
abbrev IsNode : RuleTree → Type 0
IsNode leaf = ⊥
IsNode (node c k met unmet) = Unit {0}

attached_node : (tree : RuleTree) (at : ℕ) (side : Bool) (test : Tree) (k : ℕ) → IsNode tree → IsNode (attached tree at side test k)
attached_node leaf at side test k is = is
attached_node (node c n met unmet) at side test k is = by_number (n == at) side
  where
    by_number : (b side : Bool) → IsNode (if b then grown_at side (node c n met unmet) test k else node c n (attached met at side test k) (attached unmet at side test k))
    by_number true true = tt
    by_number true false = tt
    by_number false side = tt

tree_is_node : (k : ℕ) (tree : RuleTree) (rs : List TreeRule) → IsNode tree → IsNode (attached_from k tree rs)
tree_is_node k tree [] is = is
tree_is_node k tree (r ∷ rs) is = tree_is_node (k + 1) (attached tree r.at r.side r.test k) rs (attached_node tree r.at r.side r.test k is)

from_anywhere : (tree : RuleTree) (row : Row) (p : ℕ) (from : Bool) (at : ℕ) (side : Bool) → IsNode tree → comes_to tree row p from at side ≡ comes_to tree row 0 true at side
from_anywhere leaf row p from at side is = absurd is
from_anywhere (node c n met unmet) row p from at side is = refl

-- a number that isn't 0 is a rule's
number_of_rule : (n : ℕ) → if_rule (1 + n) ≡ Some (n + 1)
number_of_rule n = ap (λ b. if b then None else Some (1 + n)) (other_number (1 + n) 0 (λ e. omega (arith, e))) ∙ ap Some (omega arith)

concluded_by : (b : Bool) (n before : ℕ) → if_rule (if b then 1 + n else before) ≡ (if b then Some (n + 1) else if_rule before)
concluded_by true n before = number_of_rule n
concluded_by false n before = refl

pub one_rule_more : (rs : List TreeRule) (r : TreeRule) (row : Row)
    → concluded (rs ++ r ∷ []) row ≡ (if ends_at rs row r.at r.side && holds r.test row then Some (length rs + 1) else concluded rs row)
one_rule_more rs r row =
    let rises = all_rise 1 root rs (omega arith, omega arith, tt, tt) in
    let elsewhere : r.at + 1 ≢ r.at = λ e. omega (arith, e) in
    ap (λ tree. if_rule (last_met tree row 0)) (from_append 1 root rs r)
    ∙ ap if_rule (walk row r.test (1 + length rs) r.at r.side 0 (1 + length rs) (tree_of rs) rises (r.at + 1) true 0 elsewhere)
    ∙ ap (λ b. if_rule (if b && holds r.test row then 1 + length rs else last_met (tree_of rs) row 0)) (from_anywhere (tree_of rs) row (r.at + 1) true r.at r.side (tree_is_node 1 root rs tt))
    ∙ concluded_by (ends_at rs row r.at r.side && holds r.test row) (length rs) (last_met (tree_of rs) row 0)
