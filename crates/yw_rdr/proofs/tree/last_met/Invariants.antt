-- From the link on the walk through a part of the tree concludes what the whole does. Numbers rise on the way down.
use Rattle.std.specs.Prelude.{◌≡◌, ℕ, length, unwrap_or}
use Rattle.yw_rdr.proofs.Going.{left}
use Rattle.yw_rdr.specs.Links.{Links, kept_in}
use Rattle.yw_rdr.specs.Rules.{rules_of}
use Rattle.yw_state.specs.RuleTree.{RuleTree, concluded, if_rule, last_met}
use Rattle.yw_rdr.proofs.tree.last_met.Given as goal

abbrev pub invariant-loop-link : goal.invariant-loop-link
invariant-loop-link g l =
    (low : ℕ) × (t : RuleTree) × Links l.nodes.items low l.link t
    × (if_rule (last_met t (g.V.Values.values l.row) (unwrap_or l.last 0)) ≡ concluded (rules_of (kept_in l.nodes.items)) (g.V.Values.values l.row))
    × (l.last ≡ if_rule (unwrap_or l.last 0))

abbrev pub decreases-loop-link : goal.decreases-loop-link
decreases-loop-link g l = left (length l.nodes.items) l.link
