-- Where the walk through a rule tree ends: after the thesis, at the side of a node to which nothing is attached.
use Rattle.std.specs.Prelude.{ℕ, ◌==◌, ◌&&◌, Bool, true, false, List, if◌then◌else◌}
use Rattle.std.specs.Bool.{beq}
use Rattle.yw_state.specs.RuleTree.{RuleTree, TreeRule, holds, tree_of}
use Rattle.yw_state.specs.RuleTree.RuleTree.{leaf, node}
use Rattle.yw_state.specs.Values.{Row}

-- the walk that comes from this side of node k ends at that side of node `at`
abbrev pub comes_to : RuleTree → Row → ℕ → Bool → ℕ → Bool → Bool
comes_to leaf row k from at side = k == at && beq from side
comes_to (node c n met unmet) row k from at side = if holds c row then comes_to met row n true at side else comes_to unmet row n false at side

-- over this row the walk through the tree of the rules ends at that side of node `at`; it begins at node 0, whose condition is true
abbrev pub ends_at : List TreeRule → Row → ℕ → Bool → Bool
ends_at rs row at side = comes_to (tree_of rs) row 0 true at side
