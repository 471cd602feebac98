use Rattle.std.proofs.Common.{false, ◌≡◌}
use Rattle.std.specs.List.{list_any}
use Rattle.yw_tree.specs.Holding.{urgent_node}
use Rattle.yw_tree.specs.declared.NetState.{out-NetState}
use Rattle.yw_tree.proofs.Lists.{EachBelow}
use Rattle.yw_tree.proofs.hold.+urgent.Given as goal

abbrev pub invariant-list_is_urgent-loop-node : goal.invariant-list_is_urgent-loop-node
invariant-list_is_urgent-loop-node l = EachBelow (λ n. urgent_node n ≡ false) l.list.items l.node-index

abbrev pub invariant-net_is_urgent-loop-list : goal.invariant-net_is_urgent-loop-list
invariant-net_is_urgent-loop-list l = EachBelow (λ v. list_any urgent_node v.items ≡ false) (out-NetState l.net).items.items l.list-index
