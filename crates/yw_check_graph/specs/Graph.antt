-- A net as a graph of numbers: a node's number is its place among the nodes.
use Rattle.std.specs.Prelude.{◌≡◌, ℕ, ◌<◌, List, [], length, get_or, true, All, Option, Some, None}
use Rattle.yw_read.specs.declared.raw.RawFlow.{RawFlow}
use Rattle.yw_base.specs.declared.gate.Gate.TheVariants as gates
use Rattle.yw_read.specs.declared.raw.RawNet.{RawNet}
use Rattle.yw_read.specs.declared.raw.RawTask.{RawTask}
use Rattle.std.specs.Borrow.{Bor}
use Rattle.yw_reach.specs.declared.flow.Flow.{Flow}
use Rattle.yw_reach.specs.Flows.{IsWithin}
use Rattle.yw_reach.specs.Renaming.{named_flows}
use Rattle.yw_accept.specs.Faults.{in_net}
use Rattle.yw_accept.specs.Graph.{NodeIsOnPath}
use Rattle.yw_accept.specs.Nodes.{is_name_among, nodes}
use Rattle.yw_accept.specs.Order.{InOrder}

-- the name with a number
abbrev pub name_at : List (List ℕ) → ℕ → List ℕ
name_at names k = get_or names k []

abbrev pub flow_between : List ℕ → List ℕ → RawFlow
flow_between from to = record { from = from; to = to }

abbrev pub EndsAreAmong : List (List ℕ) → RawFlow → Type 0
EndsAreAmong names flow = (is_name_among names flow.from ≡ true) × (is_name_among names flow.to ≡ true)

-- the flow is this one by numbers
pub record IsNumbered (names : List (List ℕ)) (said : RawFlow) (flow : Flow) : Type 0 where
  pub within : IsWithin (length names) flow
  pub same : said ≡ flow_between (name_at names flow.from) (name_at names flow.to)

-- the flows are these by numbers
pub record AreNumbered (names : List (List ℕ)) (said : List RawFlow) (flows : List Flow) : Type 0 where
  pub within : All (IsWithin (length names)) flows
  pub same : said ≡ named_flows (name_at names) flow_between flows

-- the number of the first node that is on no path; None where each is on one
abbrev pub FindsOffPath : RawNet → Option ℕ → Type 0
FindsOffPath net None = InOrder (NodeIsOnPath net) (nodes net) None
FindsOffPath net (Some k) = (k < length (nodes net)) × InOrder (NodeIsOnPath net) (nodes net) (Some (in_net 3 net.name (name_at (nodes net) k)))

abbrev pub HasOrJoin : RawTask → Type 0
HasOrJoin task = task.join ≡ gates.Or

-- the first task that has an OR-join; None where none has
abbrev pub FindsOrJoin : List RawTask → Option (Bor RawTask) → Type 0
FindsOrJoin tasks None = All (λ task. HasOrJoin task → ⊥) tasks
FindsOrJoin tasks (Some found) =
    (k : ℕ) × (k < length tasks) × ((d : RawTask) → get_or tasks k d ≡ found.now) × HasOrJoin found.now
    × ((i : ℕ) (d : RawTask) → i < k → HasOrJoin (get_or tasks i d) → ⊥)
