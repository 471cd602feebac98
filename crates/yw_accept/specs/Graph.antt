-- The checks of where nets lead: every node is on the way (3), no net uses itself and each is reached from the top (6),
-- nets don't nest too deep (7), and a net with an OR-join has no cycle (8). The third is the paper's; the others are our own.
use Rattle.std.specs.Prelude.{◌≡◌, ℕ, ◌&&◌, List, Bool, true, false, not, Option, Some, None, Contains}
use Rattle.std.specs.Str.{bytes_eq}
use Rattle.yw_read.specs.declared.raw.RawTask.{RawTask}
use Rattle.yw_read.specs.declared.raw.RawKind.{RawKind}
use Rattle.yw_read.specs.declared.raw.RawKind.TheVariants as kinds
use Rattle.yw_base.specs.declared.gate.Gate.TheVariants as gates
use Rattle.yw_read.specs.declared.raw.RawNet.{RawNet}
use Rattle.yw_read.specs.declared.raw.RawSpec.{RawSpec}
use Rattle.yw_reach.specs.Walks.{PathAlong, CycleAlong, IsBehindAlong}
use Rattle.yw_accept.specs.Faults.{in_net, of_net}
use Rattle.yw_accept.specs.Nodes.{nodes, is_net, HasFlow}
use Rattle.yw_accept.specs.Order.{Check, Demand, Then, InOrder}

-- ---- 3: every node is on a directed path from input to output

abbrev pub IsOnPath : RawNet → List ℕ → Type 0
IsOnPath net node = PathAlong (HasFlow net) net.input node × PathAlong (HasFlow net) node net.output

abbrev pub NodeIsOnPath : RawNet → List ℕ → Check
NodeIsOnPath net node = Demand (IsOnPath net node) (in_net 3 net.name node)

unfoldable pub PathsFit : RawSpec → Check
PathsFit raw = InOrder (λ (net : RawNet). InOrder (NodeIsOnPath net) (nodes net)) raw.net

-- ---- 6: `net` stands exactly for kind sub and names a net other than the top; no net uses itself; every net is
-- reached from the top

-- the net that the task's items run in
abbrev pub names_of_kind : RawKind → Option (List ℕ) → Option (List ℕ)
names_of_kind kinds.Sub net = net
names_of_kind kind net = None

abbrev pub child : RawTask → Option (List ℕ)
child task = names_of_kind task.kind task.net

abbrev pub may_be_child : RawSpec → RawKind → Option (List ℕ) → Bool
may_be_child raw kinds.Sub (Some net) = is_net raw net && not (bytes_eq net raw.top)
may_be_child raw kinds.Sub None = false
may_be_child raw kind (Some net) = false
may_be_child raw kind None = true

-- a net of the first name holds a task of kind sub that names the second
abbrev pub Holds : RawSpec → List ℕ → List ℕ → Type 0
Holds raw outer inner =
    (net : RawNet) × Contains raw.net net × (net.name ≡ outer) × (task : RawTask) × Contains net.task task × (child task ≡ Some inner)

-- the net that the task names leads to the net that holds the task, or is this net
abbrev pub LeadsBack : RawSpec → RawNet → RawTask → Type 0
LeadsBack raw net task = (inner : List ℕ) × (child task ≡ Some inner) × PathAlong (Holds raw) inner net.name

abbrev pub ChildFits : RawSpec → RawNet → RawTask → Check
ChildFits raw net task =
    Demand ((may_be_child raw task.kind task.net ≡ true) × (LeadsBack raw net task → ⊥)) (in_net 6 net.name task.name)

abbrev pub IsReached : RawSpec → RawNet → Type 0
IsReached raw net = PathAlong (Holds raw) raw.top net.name

unfoldable pub ChildrenFit : RawSpec → Check
ChildrenFit raw =
    Then (InOrder (λ (net : RawNet). InOrder (ChildFits raw net) net.task) raw.net)
    (InOrder (λ (net : RawNet). Demand (IsReached raw net) (of_net 6 net.name)) raw.net)

-- ---- 7: at most 8 nets stand on a way down from the top

abbrev pub most_levels : ℕ
most_levels = 8

unfoldable pub LevelsFit : RawSpec → Check
LevelsFit raw = InOrder (λ (net : RawNet). Demand (IsBehindAlong (Holds raw) raw.top net.name most_levels → ⊥) (of_net 7 net.name)) raw.net

-- ---- 8: a net with an OR-join has no directed cycle

abbrev pub OrJoinFits : RawNet → RawTask → Check
OrJoinFits net task = Demand (task.join ≡ gates.Or → CycleAlong (HasFlow net) → ⊥) (in_net 8 net.name task.name)

unfoldable pub OrJoinsFit : RawSpec → Check
OrJoinsFit raw = InOrder (λ (net : RawNet). InOrder (OrJoinFits net) net.task) raw.net
