-- The checks of tasks by their nets, each with a name.
use Rattle.std.specs.Prelude.{◌≡◌, ℕ, List, [], true, nat_le, length, get_or}
use Rattle.yw_read.specs.declared.raw.RawTask.{RawTask}
use Rattle.yw_read.specs.declared.raw.RawNet.{RawNet}
use Rattle.yw_accept.specs.Faults.{in_net, of_net}
use Rattle.yw_accept.specs.Order.{Check, Demand, InOrder}
use Rattle.yw_accept.specs.Tasks.{items_fit, is_small_task, most_nets, SplitFits}
use Rattle.yw_accept.specs.Nodes.{net_names}

-- the bounds of a task's items fit, in the net with this name
abbrev pub TaskItemsFit : List ℕ → RawTask → Check
TaskItemsFit net task = Demand (items_fit task ≡ true) (in_net 5 net task.name)

abbrev pub NetItemsFit : RawNet → Check
NetItemsFit net = InOrder (TaskItemsFit net.name) net.task

abbrev pub NetSplitsFit : RawNet → Check
NetSplitsFit net = InOrder (SplitFits net) net.task

-- a task's sizes fit, in the net with this name
abbrev pub TaskIsSmall : List ℕ → RawTask → Check
TaskIsSmall net task = Demand (is_small_task task ≡ true) (in_net 12 net task.name)

abbrev pub TasksAreSmall : RawNet → Check
TasksAreSmall net = InOrder (TaskIsSmall net.name) net.task

-- there is no 65th net
abbrev pub NetsAreFew : List RawNet → Check
NetsAreFew nets = Demand (nat_le (length nets) most_nets ≡ true) (of_net 12 (get_or (net_names nets) most_nets []))
