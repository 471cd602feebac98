-- The rules of a tree as they are kept, without the texts of their conditions. Our own.
use Rattle.std.specs.Prelude.{ℕ, Bool, List, [], map}
use Rattle.yw_expr.specs.Tree.{Tree}
use Rattle.yw_state.specs.RuleTree.{TreeRule}
use Rattle.yw_state.specs.declared.tree.Conclusion.{Conclusion}

-- A rule, with its condition as it was read.
pub record Kept : Type 0 where
  pub at : ℕ
  pub side : Bool
  pub test : Tree
  pub conclusion : Conclusion

-- as the definitions have it; what a tree concludes reads no text
abbrev pub as_rule : Kept → TreeRule
as_rule k = record { at = k.at; side = k.side; when = []; test = k.test; conclusion = k.conclusion }

abbrev pub rules_of : List Kept → List TreeRule
rules_of ks = map as_rule ks

abbrev pub kept_of : TreeRule → Kept
kept_of r = record { at = r.at; side = r.side; test = r.test; conclusion = r.conclusion }

abbrev pub a_rule : ℕ → Bool → Tree → Conclusion → Kept
a_rule at side test conclusion = record { at = at; side = side; test = test; conclusion = conclusion }
