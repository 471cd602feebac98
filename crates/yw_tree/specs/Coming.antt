-- What may come to a forest.
use Rattle.std.specs.List.{list_all}
use Rattle.std.specs.Prelude.{◌≡◌, ◌<◌, true, List, None, T, if◌then◌else◌, is_some, length, nat_lt, IsSome, IsSomeAnd, IsTrue, ℕ}
use Rattle.std.specs.Ordering.{is_lt}
use Rattle.yw_state.specs.Identity.{Ident, is_case_ident, is_child}
use Rattle.yw_base.specs.Identity.{case_number}
use Rattle.yw_state.specs.Map.{get, lexical}
use Rattle.yw_tree.specs.Cases.{case_at}
use Rattle.yw_tree.specs.Forest.{item_of, sites_of}
use Rattle.yw_tree.specs.Places.{hung_at, net_at}
use Rattle.yw_tree.specs.Spots.{part_at}
use Rattle.yw_tree.specs.declared.Forest.{Forest}
use Rattle.yw_tree.specs.declared.NetState.{NetState, out-NetState}
use Rattle.yw_tree.specs.declared.Node.{Node, out-Node}
use Rattle.yw_tree.specs.declared.Run.{Run, out-Run}

-- whatever stands directly under i comes before k, in the order of identities
abbrev pub ComesAfter : Forest → Ident → Ident → Type 0
ComesAfter f i k = (j : Ident) → is_child j i ≡ true → IsSome (part_at f j) → T (is_lt (lexical j k))

-- all that stands has numbers below n, as where numbers come from a counter that stands at n
abbrev pub AreDrawn : Forest → ℕ → Type 0
AreDrawn f n = (names : ℕ → List ℕ) (j : Ident) → is_some (get (sites_of names f) j) ≡ true → list_all (λ k. nat_lt k n) j ≡ true

abbrev pub HasTask : ℕ → NetState → Type 0
HasTask t s = t < length (out-NetState s).items.items

-- An item that may come to the net at i: its task is one of the net's, its identity is directly under i and after all that stands there, and
-- it has no net and no run.
pub record ItemMayCome (f : Forest) (i : Ident) (n : Node) : Type 0 where
  pub task_in : IsSomeAnd (net_at f i) (HasTask (out-Node n).task)
  pub child : is_child (out-Node n).id i ≡ true
  pub after : ComesAfter f i (out-Node n).id
  pub without_net : (out-Node n).net ≡ None
  pub without_run : (out-Node n).run ≡ None

-- a case or an item stands at i
abbrev pub TargetStands : Forest → Ident → Type 0
TargetStands f i = IsTrue (if is_case_ident i then is_some (case_at (case_number i) f.cases) else is_some (item_of f i))

-- A run that may come to the case or item at i: none hangs there, its identity is directly under i, nothing stands at it, and it has no net.
pub record RunMayCome (f : Forest) (i : Ident) (r : Run) : Type 0 where
  pub target : TargetStands f i
  pub idle : hung_at f i ≡ None
  pub child : is_child (out-Run r).id i ≡ true
  pub vacant : part_at f (out-Run r).id ≡ None
  pub without_net : (out-Run r).net ≡ None

abbrev pub HasNoNet : Run → Type 0
HasNoNet r = (out-Run r).net ≡ None
