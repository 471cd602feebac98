-- Tokens that go from a net, and items that come to it one after another.
use Rattle.std.specs.Prelude.{◌≡◌, ◌+◌, ◌<◌, ◌≤◌, ◌++◌, ℕ, List, [], ◌∷◌, None, fold, length, slice_get}
use Rattle.yw_sites.specs.Idents.{Each}
use Rattle.yw_state.specs.After.{new_item, one_less}
use Rattle.yw_state.specs.Identity.{Ident}
use Rattle.yw_base.specs.Identity.{child}
use Rattle.yw_state.specs.Map.{get}
use Rattle.yw_state.specs.State.{Sites}
use Rattle.yw_state.specs.Values.{Row}
use Rattle.yw_state.specs.declared.part.Checks.{Checks}
use Rattle.yw_tree.specs.Entries.{item_site}
use Rattle.yw_tree.specs.Shows.{AddsItem, row_or_none}
use Rattle.yw_tree.specs.declared.NetState.{NetState, out-NetState}
use Rattle.yw_tree.specs.declared.Node.{Node, out-Node}

-- the same net, with a token less on each of these places
abbrev pub LosesTokens : List ℕ → NetState → NetState → Type 0
LosesTokens cs old new = out-NetState new ≡ record (out-NetState old) { marks = fold one_less (out-NetState old).marks cs }

-- An item of task t that is ready and given this, with these checks due, and nothing below it.
pub record IsReady (j : Ident) (t : ℕ) (due : Checks) (given : Row) (n : Node) : Type 0 where
  pub id : (out-Node n).id ≡ j
  pub task : (out-Node n).task ≡ t
  pub site : (names : ℕ → List ℕ) → item_site names n ≡ new_item t given due
  pub without_net : (out-Node n).net ≡ None
  pub without_run : (out-Node n).run ≡ None

-- such items come to the net at i, numbered from first on
abbrev pub GetsItems : Ident → ℕ → Checks → ℕ → List Row → NetState → NetState → Type 0
GetsItems i t due first [] old new = new ≡ old
GetsItems i t due first (given ∷ rows) old new =
    (n : Node) × (mid : NetState) × IsReady (child i first) t due given n × AddsItem old mid n × GetsItems i t due (first + 1) rows mid new

-- nothing stands directly under i with a number from first on
abbrev pub NothingFrom : Sites → Ident → ℕ → Type 0
NothingFrom m i first = (n : ℕ) → first ≤ n → get m (child i n) ≡ None

-- ---- a task's own list

-- the items of a task
abbrev pub row_of : NetState → ℕ → List Node
row_of s t = row_or_none (slice_get (out-NetState s).items.items t)

-- each has the net's identity with a number below this one
abbrev pub AreBefore : Ident → ℕ → List Node → Type 0
AreBefore i first = Each (λ n. (k : ℕ) × (k < first) × ((out-Node n).id ≡ child i k))

-- The net has one item more, at the end of its task's list, and as many lists as before.
pub record PutsItem (old new : NetState) (n : Node) : Type 0 where
  pub adds : AddsItem old new n
  pub lists : length (out-NetState new).items.items ≡ length (out-NetState old).items.items
  pub row : row_of new (out-Node n).task ≡ row_of old (out-Node n).task ++ n ∷ []
