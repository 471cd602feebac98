-- The nets as a graph of numbers: a net's number is its place among the nets, and a flow goes from a net to each net
-- that a task of it names.
use Rattle.std.specs.Prelude.{◌≡◌, ◌↔◌, ℕ, ◌<◌, ◌++◌, List, length, Bool, Contains, Option, Some, None, option_map, if◌then◌else◌, ⊤}
use Rattle.std.specs.List.{filter_map, flat_map}
use Rattle.yw_read.specs.declared.raw.RawFlow.{RawFlow}
use Rattle.yw_read.specs.declared.raw.RawNet.{RawNet}
use Rattle.yw_read.specs.declared.raw.RawSpec.{RawSpec}
use Rattle.yw_read.specs.declared.raw.RawTask.{RawTask}
use Rattle.yw_reach.specs.declared.flow.Flow.{Flow}
use Rattle.yw_reach.specs.Marking.{Marked}
use Rattle.yw_reach.specs.Walks.{PathAlong}
use Rattle.yw_accept.specs.Faults.{of_net}
use Rattle.yw_accept.specs.Graph.{ChildFits, Holds, IsReached, LeadsBack, child}
use Rattle.yw_accept.specs.Index.{IsIndexOf}
use Rattle.yw_accept.specs.Nodes.{is_name_among, net_names}
use Rattle.yw_accept.specs.Order.{Check, Demand, InOrder}
use Rattle.yw_check_graph.specs.declared.nets.NetGraph.{NetGraph}
use Rattle.yw_check_graph.specs.Graph.{AreNumbered, flow_between, name_at}

-- the name that is given, where it is one of these
abbrev pub among : List (List ℕ) → Option (List ℕ) → Option (List ℕ)
among names None = None
among names (Some name) = if is_name_among names name then Some name else None

-- the net of these names that the task names
abbrev pub child_among : List (List ℕ) → RawTask → Option (List ℕ)
child_among names task = among names (child task)

-- the number of the net of these names that the task names; None where it names none of them
abbrev pub IsChildNumber : List (List ℕ) → RawTask → Option ℕ → Type 0
IsChildNumber names task None = child_among names task ≡ None
IsChildNumber names task (Some k) = (k < length names) × (child_among names task ≡ Some (name_at names k))

-- the flow from the net `outer` to the net of these names that a task of it names
abbrev pub link : List (List ℕ) → List ℕ → RawTask → Option RawFlow
link names outer task = option_map (flow_between outer) (child_among names task)

abbrev pub links_from : List (List ℕ) → List ℕ → List RawTask → List RawFlow
links_from names outer tasks = filter_map (link names outer) tasks

abbrev pub links : List (List ℕ) → List RawNet → List RawFlow
links names nets = flat_map (λ (net : RawNet). links_from names net.name net.task) nets

-- behind the old flows stand those by numbers that `more` says
abbrev pub AddsFlows : List (List ℕ) → List RawFlow → List Flow → List Flow → Type 0
AddsFlows names more old new = (said : List RawFlow) → AreNumbered names said old → AreNumbered names (said ++ more) new

-- the nets of the specification and its top by their numbers
pub record IsNetGraph (raw : RawSpec) (graph : NetGraph) : Type 0 where
  pub index : IsIndexOf (net_names raw.net) graph.index
  pub count : graph.count ≡ length raw.net
  pub top_within : graph.top < length (net_names raw.net)
  pub top_name : name_at (net_names raw.net) graph.top ≡ raw.top
  pub numbered : AreNumbered (net_names raw.net) (links (net_names raw.net) raw.net) graph.flows.items

-- the tasks of one net fit: the first part of the check of children
abbrev pub NetChildrenFit : RawSpec → RawNet → Check
NetChildrenFit raw net = InOrder (ChildFits raw net) net.task

-- one net fits: its second part
abbrev pub NetIsReached : RawSpec → RawNet → Check
NetIsReached raw net = Demand (IsReached raw net) (of_net 6 net.name)

-- Which nets lead to the net: each by its mark. Without marks no task of the net leads back.
abbrev pub TellsBack : RawSpec → RawNet → Option (List Bool) → Type 0
TellsBack raw net None = (task : RawTask) → Contains net.task task → LeadsBack raw net task → ⊥
TellsBack raw net (Some marks) =
    (length marks ≡ length raw.net)
    × ((k : ℕ) → k < length raw.net → Marked marks k ↔ PathAlong (Holds raw) (name_at (net_names raw.net) k) net.name)

-- there are marks and a number, and there is a mark at the number
abbrev pub IsMarkedAt : Option (List Bool) → Option ℕ → Type 0
IsMarkedAt (Some marks) (Some k) = Marked marks k
IsMarkedAt (Some marks) None = ⊥
IsMarkedAt None number = ⊥

-- the number is that of a mark
abbrev pub IsWithinMarks : Option (List Bool) → Option ℕ → Type 0
IsWithinMarks (Some marks) (Some k) = k < length marks
IsWithinMarks (Some marks) None = ⊤
IsWithinMarks None number = ⊤

-- the first of so many numbers of which P doesn't hold; None where it holds of each
abbrev pub IsFirstWithout : (ℕ → Type 0) → ℕ → Option ℕ → Type 0
IsFirstWithout P count None = (k : ℕ) → k < count → P k
IsFirstWithout P count (Some found) = (found < count) × ((k : ℕ) → k < found → P k) × ¬ (P found)
