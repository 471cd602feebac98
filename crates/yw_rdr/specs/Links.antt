-- How the nodes of a tree are linked. Our own.
use Rattle.std.specs.Prelude.{◌≡◌, ◌≤◌, ℕ, ◌+◌, ◌++◌, ◌∷◌, [], Bool, true, false, suc, zero, List, map, length, Option, Some, None, option_and_then, slice_get, if◌then◌else◌}
use Rattle.yw_base.specs.declared.value.Value.TheVariants as values
use Rattle.yw_expr.specs.Tree.{Tree, constant}
use Rattle.yw_rdr.specs.Rules.{Kept, rules_of}
use Rattle.yw_rdr.specs.declared.tree.Node.{Node}
use Rattle.yw_state.specs.NewRule.{most_rules}
use Rattle.yw_state.specs.RuleTree.{RuleTree, tree_of}
use Rattle.yw_state.specs.RuleTree.RuleTree.{leaf, node}
use Rattle.yw_state.specs.declared.tree.Conclusion.{Conclusion}

abbrev pub kept_of_node : Node → Kept
kept_of_node n = record { at = n.at; side = n.side; test = n.test; conclusion = n.conclusion }

abbrev pub kept_in : List Node → List Kept
kept_in ns = map kept_of_node ns

-- Rule k stands in the list at k - 1. From this link on stands this tree, of rules from `low` on: numbers rise on the way down.
abbrev pub Links : List Node → ℕ → Option ℕ → RuleTree → Type 0
Links ns low link leaf = link ≡ None
Links ns low link (node test k met unmet) =
    (n : Node) × (j : ℕ) × (k ≡ 1 + j) × (link ≡ Some j) × (low ≤ j) × (slice_get ns j ≡ Some n) × (n.test ≡ test)
    × Links ns (1 + j) n.met met × Links ns (1 + j) n.unmet unmet

-- what is attached to the node with this number at that side; to node 0 where it is true
abbrev pub side_of : Bool → Node → Option ℕ
side_of true n = n.met
side_of false n = n.unmet

abbrev pub at_root : Option ℕ → Bool → Option ℕ
at_root first true = first
at_root first false = None

abbrev pub link_at : Option ℕ → List Node → ℕ → Bool → Option ℕ
link_at first ns zero side = at_root first side
link_at first ns (suc i) side = option_and_then (side_of side) (slice_get ns i)

-- The links are those of the tree of the rules. A rule is linked where it says, and nothing else is.
pub record IsTree (first : Option ℕ) (ns : List Node) : Type 0 where
  pub met : RuleTree
  pub tree : tree_of (rules_of (kept_in ns)) ≡ node (constant (values.Bool true)) 0 met leaf
  pub links : Links ns 0 first met
  pub most : length ns ≤ most_rules
  pub there : (j : ℕ) (n : Node) → slice_get ns j ≡ Some n → link_at first ns n.at n.side ≡ Some j
  pub alone : (at : ℕ) (side : Bool) (j : ℕ) → link_at first ns at side ≡ Some j → (n : Node) × (slice_get ns j ≡ Some n) × (n.at ≡ at) × (n.side ≡ side)

-- ---- one rule more

-- with this rule attached to it at that side
abbrev pub with_side : Bool → ℕ → Node → Node
with_side true j n = record n { met = Some j }
with_side false j n = record n { unmet = Some j }

-- a rule to which nothing is attached
abbrev pub new_node : ℕ → Bool → Tree → Conclusion → Node
new_node at side test conclusion = record { at = at; side = side; test = test; conclusion = conclusion; met = None; unmet = None }

-- After the nodes stands a new one, and it is attached to the one where it says.
pub record Grows (ns new : List Node) (at : ℕ) (side : Bool) (test : Tree) (conclusion : Conclusion) : Type 0 where
  pub kept : kept_in new ≡ kept_in ns ++ kept_of_node (new_node at side test conclusion) ∷ []
  pub behind : slice_get new (length ns) ≡ Some (new_node at side test conclusion)
  pub same : (j : ℕ) (n : Node) → slice_get ns j ≡ Some n → (1 + j ≡ at → ⊥) → slice_get new j ≡ Some n
  pub turned : (j : ℕ) (n : Node) → slice_get ns j ≡ Some n → 1 + j ≡ at → slice_get new j ≡ Some (with_side side (length ns) n)

-- so is the first
abbrev pub first_with : Option ℕ → ℕ → Bool → ℕ → Option ℕ
first_with first zero side j = if side then Some j else first
first_with first (suc i) side j = first
