-- Rule trees, after the thesis: a rule is attached to a node at the side for true or at that for false, and a walk ends at the last
-- rule that held. Node 0 is always there; its condition is true, and it concludes nothing.
use Rattle.std.specs.Prelude.{ℕ, ◌+◌, ◌==◌, Bool, true, false, List, [], ◌∷◌, Option, Some, None, if◌then◌else◌}
use Rattle.yw_base.specs.declared.value.Value.TheVariants as values
use Rattle.yw_expr.specs.Meaning.{val, truth_of}
use Rattle.yw_expr.specs.Tree.{Tree, constant}
use Rattle.yw_state.specs.Options.{is_some_and}
use Rattle.yw_state.specs.Values.{Row}
use Rattle.yw_state.specs.declared.tree.Conclusion.{Conclusion}

-- a rule as it was given, with its condition as it was read
pub record TreeRule : Type 0 where
  pub at : ℕ
  pub side : Bool
  pub when : List ℕ
  pub test : Tree
  pub conclusion : Conclusion

-- a condition that is undefined counts as false
abbrev pub holds : Tree → Row → Bool
holds test row = is_some_and (truth_of (val test row)) (λ b. b)

-- nothing is attached here, or the rule with this number is, with what is attached to it for true and for false
pub data RuleTree : Type 0 where
  leaf : RuleTree
  node : (test : Tree) (k : ℕ) (met unmet : RuleTree) → RuleTree

-- ---- the tree of a list of rules

abbrev pub grown : RuleTree → Tree → ℕ → RuleTree
grown leaf test k = node test k leaf leaf
grown (node c n met unmet) test k = node c n met unmet

abbrev pub grown_at : Bool → RuleTree → Tree → ℕ → RuleTree
grown_at side leaf test k = leaf
grown_at true (node c n met unmet) test k = node c n (grown met test k) unmet
grown_at false (node c n met unmet) test k = node c n met (grown unmet test k)

-- the leaf at that side of node `at` becomes node k
abbrev pub attached : RuleTree → ℕ → Bool → Tree → ℕ → RuleTree
attached leaf at side test k = leaf
attached (node c n met unmet) at side test k =
    if n == at then grown_at side (node c n met unmet) test k else node c n (attached met at side test k) (attached unmet at side test k)

abbrev pub attached_from : ℕ → RuleTree → List TreeRule → RuleTree
attached_from k tree [] = tree
attached_from k tree (r ∷ rs) = attached_from (k + 1) (attached tree r.at r.side r.test k) rs

abbrev pub root : RuleTree
root = node (constant (values.Bool true)) 0 leaf leaf

-- the tree of rules 1, 2 and so on
abbrev pub tree_of : List TreeRule → RuleTree
tree_of rs = attached_from 1 root rs

-- ---- what it concludes

-- the number of the last node on the walk whose condition held
abbrev pub last_met : RuleTree → Row → ℕ → ℕ
last_met leaf row last = last
last_met (node c k met unmet) row last = if holds c row then last_met met row k else last_met unmet row last

abbrev pub if_rule : ℕ → Option ℕ
if_rule k = if k == 0 then None else Some k

-- the number of the rule that is concluded, or nothing
abbrev pub concluded : List TreeRule → Row → Option ℕ
concluded rs row = if_rule (last_met (tree_of rs) row 0)
