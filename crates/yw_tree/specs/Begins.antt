-- A net, an item and a run as they begin.
use Rattle.std.specs.Prelude.{◌≡◌, List, None, [], length, ℕ}
use Rattle.yw_state.specs.After.{new_item, new_run}
use Rattle.yw_state.specs.Identity.{Ident}
use Rattle.yw_state.specs.State.{no_checks}
use Rattle.yw_state.specs.Values.{Row}
use Rattle.yw_state.specs.declared.tree.Primitive.{Primitive}
use Rattle.yw_tree.specs.Boxed.{IsBoxedNet}
use Rattle.yw_tree.specs.Entries.{item_site, net_part, nodes, run_site}
use Rattle.yw_tree.specs.declared.NetState.{NetState, out-NetState}
use Rattle.yw_tree.specs.declared.Node.{Node, out-Node}
use Rattle.yw_tree.specs.declared.Run.{Run, out-Run}

-- A net with these tokens and values, which has no item yet and a list for each of so many tasks.
pub record BeginsNet (spec net : ℕ) (marks : List ℕ) (vals : Row) (tasks : ℕ) (s : NetState) : Type 0 where
  pub part : (names : ℕ → List ℕ) → net_part names s ≡ record { spec = names spec; net = net; vals = vals; tokens = marks }
  pub lists : length (out-NetState s).items.items ≡ tasks
  pub empty : nodes s ≡ []
  pub boxed : IsBoxedNet s

-- An item of a task that is ready, given this, with nothing due at it, no net and no run.
pub record BeginsItem (j : Ident) (k : ℕ) (given : Row) (n : Node) : Type 0 where
  pub id : (out-Node n).id ≡ j
  pub task : (out-Node n).task ≡ k
  pub site : (names : ℕ → List ℕ) → item_site names n ≡ new_item k given no_checks
  pub without_net : (out-Node n).net ≡ None
  pub without_run : (out-Node n).run ≡ None

-- A run that has all of this to do, with no net.
pub record BeginsRun (j : Ident) (rest : List Primitive) (r : Run) : Type 0 where
  pub id : (out-Run r).id ≡ j
  pub site : (names : ℕ → List ℕ) → run_site names r ≡ new_run rest
  pub without_net : (out-Run r).net ≡ None
