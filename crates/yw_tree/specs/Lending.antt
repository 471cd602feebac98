-- Loans into boxes.
use Rattle.std.specs.Borrow.{Fml, Lends, LendsIf, MutBor}
use Rattle.std.specs.Prelude.{Option, ℕ}
use Rattle.yw_state.specs.Identity.{Ident}
use Rattle.yw_tree.specs.Forest.{item_replaced, item_net_replaced, top_replaced}
use Rattle.yw_tree.specs.Places.{case_with_run, item_with_run, placed_case, over_run_net, placed_net, placed_run, run_of}
use Rattle.yw_tree.specs.Ways.{placed_in, with_case_inner, with_inner, with_net, with_net_in_run, with_node, with_run}
use Rattle.yw_tree.specs.contracts.Case.{the_row as case_row}
use Rattle.yw_tree.specs.contracts.Forest.{the_row as forest_row}
use Rattle.yw_tree.specs.contracts.NetState.{the_row as net_row}
use Rattle.yw_tree.specs.contracts.Node.{the_row as node_row}
use Rattle.yw_tree.specs.contracts.Run.{the_row as run_row}
use Rattle.yw_tree.specs.declared.Case.{Case}
use Rattle.yw_tree.specs.declared.Forest.{Forest}
use Rattle.yw_tree.specs.declared.NetState.{NetState}
use Rattle.yw_tree.specs.declared.Node.{Node, out-Node, roll-Node}
use Rattle.yw_tree.specs.declared.Run.{Run}

-- the item at an identity, for writing
abbrev pub LendsInNet : ℕ → MutBor NetState → Ident → Option (MutBor Node) → Fml
LendsInNet room s id r = LendsIf net_row node_row s r (λ w. placed_in room id w s.now) s.now

-- one item of a net, by its place
abbrev pub LendsAt : MutBor NetState → ℕ → ℕ → MutBor Node → Fml
LendsAt s t i r = Lends net_row node_row s r (with_node s.now t i)

abbrev pub LendsNet : MutBor Node → Option (MutBor NetState) → Fml
LendsNet s r = LendsIf node_row net_row s r (λ w. roll-Node (record (out-Node s.now) { net = with_net (out-Node s.now).net w })) s.now

abbrev pub LendsRun : MutBor Node → MutBor Run → Fml
LendsRun s r = Lends node_row run_row s r (λ w. roll-Node (record (out-Node s.now) { run = with_run (out-Node s.now).run w }))

abbrev pub LendsRunNet : MutBor Run → Option (MutBor NetState) → Fml
LendsRunNet s r = LendsIf run_row net_row s r (with_net_in_run s.now) s.now

abbrev pub LendsInner : MutBor Node → Ident → Option (MutBor NetState) → Fml
LendsInner s id r = LendsIf node_row net_row s r (with_inner id s.now) s.now

-- ---- from a case and a forest

abbrev pub LendsCaseNet : MutBor Case → Ident → Option (MutBor NetState) → Fml
LendsCaseNet s id r = LendsIf case_row net_row s r (with_case_inner id s.now) s.now

abbrev pub LendsCaseRun : MutBor Case → MutBor Run → Fml
LendsCaseRun s r = Lends case_row run_row s r (λ w. record s.now { run = with_run s.now.run w })

abbrev pub LendsItem : MutBor Forest → Ident → Option (MutBor Node) → Fml
LendsItem s id r = LendsIf forest_row node_row s r (item_replaced s.now id) s.now

abbrev pub LendsItemNet : MutBor Forest → Ident → Option (MutBor NetState) → Fml
LendsItemNet s id r = LendsIf forest_row net_row s r (item_net_replaced s.now id) s.now

abbrev pub LendsTop : MutBor Forest → ℕ → Option (MutBor NetState) → Fml
LendsTop s n r = LendsIf forest_row net_row s r (top_replaced s.now n) s.now

abbrev pub LendsCase : MutBor Forest → ℕ → Option (MutBor Case) → Fml
LendsCase s n r = LendsIf forest_row case_row s r (placed_case s.now n) s.now

-- the run of a case or of an item
abbrev pub LendsRunOfCase : MutBor Case → Option (MutBor Run) → Fml
LendsRunOfCase s r = LendsIf case_row run_row s r (case_with_run s.now) s.now

abbrev pub LendsRunOfItem : MutBor Node → Option (MutBor Run) → Fml
LendsRunOfItem s r = LendsIf node_row run_row s r (item_with_run s.now) s.now

abbrev pub LendsRunAt : MutBor Forest → Ident → Option (MutBor Run) → Fml
LendsRunAt s id r = LendsIf forest_row run_row s r (placed_run s.now id) s.now

abbrev pub LendsNetAt : MutBor Forest → Ident → Option (MutBor NetState) → Fml
LendsNetAt s id r = LendsIf forest_row net_row s r (placed_net s.now id) s.now

abbrev pub LendsRunNetAt : MutBor Forest → Ident → Option (MutBor NetState) → Fml
LendsRunNetAt s id r = LendsIf forest_row net_row s r (λ w. over_run_net s.now id w (run_of s.now id)) s.now
