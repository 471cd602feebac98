-- The checks of what stands at a task: bounds of several items (5), branches of a split (10), and sizes (12).
-- Branches in order with a default are after the YAWL User Manual; the checks and their order are our own.
use Rattle.std.specs.Prelude.{◌≡◌, ℕ, ◌&&◌, ◌==◌, List, [], length, map, Bool, true, false, not, is_none, nat_le, int_le, ℤ, pos, get_or, count_by}
use Rattle.std.specs.List.{list_all}
use Rattle.std.specs.Option.{option_map_or}
use Rattle.std.specs.Str.{bytes_eq}
use Rattle.yw_read.specs.TaskKinds.{is_empty}
use Rattle.yw_read.specs.declared.raw.RawBranch.{RawBranch}
use Rattle.yw_read.specs.declared.raw.RawIn.{RawIn}
use Rattle.yw_base.specs.declared.gate.Gate.{Gate}
use Rattle.yw_base.specs.declared.gate.Gate.TheVariants as gates
use Rattle.yw_read.specs.declared.raw.RawTask.{RawTask}
use Rattle.yw_read.specs.declared.raw.RawNet.{RawNet}
use Rattle.yw_read.specs.declared.raw.RawSpec.{RawSpec}
use Rattle.yw_accept.specs.Faults.{in_net, of_net}
use Rattle.yw_accept.specs.Nodes.{is_name_among, net_names, nodes, leads_to}
use Rattle.yw_accept.specs.Order.{Check, Demand, Then, InOrder}

-- ---- 5: with `each` the kind is atomic or sub, 1 <= min <= max <= 1,000, 1 <= threshold <= 1,000, and `item` names one
-- of `ins`; without it none of `item`, `min`, `max`, `threshold` and `dynamic` stands

abbrev pub most_items : ℤ
most_items = pos 1000

abbrev pub least : RawTask → ℤ
least task = option_map_or (λ n. n) task.min (pos 1)

abbrev pub greatest : RawTask → ℤ
greatest task = option_map_or (λ n. n) task.max most_items

abbrev pub enough : RawTask → ℤ
enough task = option_map_or (λ n. n) task.threshold most_items

abbrev pub bounds_fit : RawTask → Bool
bounds_fit task =
    int_le (pos 1) (least task) && int_le (least task) (greatest task) && int_le (greatest task) most_items
    && int_le (pos 1) (enough task) && int_le (enough task) most_items

abbrev pub in_names : RawTask → List (List ℕ)
in_names task = map (λ (p : RawIn). p.name) task.ins

abbrev pub item_fits : RawTask → Bool
item_fits task = option_map_or (is_name_among (in_names task)) task.item false

abbrev pub has_no_bounds : RawTask → Bool
has_no_bounds task = is_none task.item && is_none task.min && is_none task.max && is_none task.threshold && is_none task.dynamic

abbrev pub items_fit : RawTask → Bool
items_fit task =
    option_map_or (λ _. not (is_empty task.kind) && bounds_fit task && item_fits task) task.each (has_no_bounds task)

unfoldable pub ItemsFit : RawSpec → Check
ItemsFit raw =
    InOrder (λ (net : RawNet). InOrder (λ (task : RawTask). Demand (items_fit task ≡ true) (in_net 5 net.name task.name)) net.task) raw.net

-- ---- 10: an XOR or OR split has branches, in which each `to` names an output of the task, each output is named exactly
-- once, and exactly one branch has no `when`; an AND split has none

-- the branches share out the outputs
abbrev pub branches_fit : List (List ℕ) → List RawBranch → Bool
branches_fit outputs branches =
    list_all (λ (b : RawBranch). is_name_among outputs b.to) branches
    && list_all (λ output. count_by (λ (b : RawBranch). bytes_eq output b.to) branches == 1) outputs
    && count_by (λ (b : RawBranch). is_none b.when) branches == 1

abbrev pub split_fits : Gate → List (List ℕ) → List RawBranch → Bool
split_fits gates.And outputs branches = length branches == 0
split_fits gate outputs branches = branches_fit outputs branches

abbrev pub SplitFits : RawNet → RawTask → Check
SplitFits net task = Demand (split_fits task.split (leads_to net task.name) task.branch ≡ true) (in_net 10 net.name task.name)

unfoldable pub SplitsFit : RawSpec → Check
SplitsFit raw = InOrder (λ (net : RawNet). InOrder (SplitFits net) net.task) raw.net

-- ---- 12: at most 64 nets; in a net at most 256 named conditions and tasks, 1,024 flows and 64 variables; at a task at
-- most 32 `ins`, 32 `outs` and 256 removals

abbrev pub most_nets : ℕ
most_nets = 64

abbrev pub is_small_net : RawNet → Bool
is_small_net net = nat_le (length (nodes net)) 256 && nat_le (length net.flows) 1024 && nat_le (length net.vars) 64

abbrev pub is_small_task : RawTask → Bool
is_small_task task = nat_le (length task.ins) 32 && nat_le (length task.outs) 32 && nat_le (length task.remove) 256

-- the net's own sizes, and then its tasks'
abbrev pub NetIsSmall : RawNet → Check
NetIsSmall net =
    Then (Demand (is_small_net net ≡ true) (of_net 12 net.name))
    (InOrder (λ (task : RawTask). Demand (is_small_task task ≡ true) (in_net 12 net.name task.name)) net.task)

-- the 65th net, and then each net
unfoldable pub SizesFit : RawSpec → Check
SizesFit raw =
    Then (Demand (nat_le (length raw.net) most_nets ≡ true) (of_net 12 (get_or (net_names raw.net) most_nets [])))
    (InOrder NetIsSmall raw.net)
