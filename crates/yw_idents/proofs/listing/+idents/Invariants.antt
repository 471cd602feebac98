use Rattle.std.proofs.Common.{List, take, ℕ}
use Rattle.yw_idents.proofs.Adding.{listed, rows_listed}
use Rattle.yw_idents.proofs.listing.+idents.Given as goal
use Rattle.yw_idents.specs.Idents.{Adds}
use Rattle.yw_tree.specs.declared.NetState.{out-NetState}

abbrev pub invariant-push_list-loop-node : goal.invariant-push_list-loop-node
invariant-push_list-loop-node l = (names : ℕ → List ℕ) → Adds l.fn.into.items l.into.items (listed names (take l.node-index l.list.items))

abbrev pub invariant-push_net-loop-list : goal.invariant-push_net-loop-list
invariant-push_net-loop-list l =
    (names : ℕ → List ℕ) → Adds l.fn.into.items l.into.items (rows_listed names (take l.list-index (out-NetState l.net).items.items))
