-- The names in a task and in a net, and what a set knows of nodes and nets.
use Rattle.std.specs.Prelude.{◌≡◌, ◌++◌, List, [], map, Option, None, option_to_list}
use Rattle.yw_read.specs.declared.raw.RawIn.{RawIn}
use Rattle.yw_read.specs.declared.raw.RawOut.{RawOut}
use Rattle.yw_read.specs.declared.raw.RawSet.{RawSet}
use Rattle.yw_read.specs.declared.raw.RawVar.{RawVar}
use Rattle.yw_read.specs.declared.raw.RawTask.{RawTask}
use Rattle.yw_read.specs.declared.raw.RawNet.{RawNet}
use Rattle.yw_accept.specs.declared.broken.Broken.{Broken}
use Rattle.yw_accept.specs.Faults.{in_net}
use Rattle.yw_accept.specs.Names.{IsUsable, AreNew, TaskNames}
use Rattle.yw_accept.specs.Nodes.{named_places, task_names, net_names}
use Rattle.yw_accept.specs.Order.{Check, Then, InOrder, InTurn}
use Rattle.yw_check_names.specs.Seen.{NameSet, Knows}

-- the names in a task are its role, and those of what it is given, of what it makes, and of what it sets
abbrev pub NamesInTask : RawNet → RawTask → Check
NamesInTask net task =
    Then (InOrder (IsUsable (in_net 1 net.name)) (option_to_list task.role))
    (Then (AreNew (in_net 1 net.name) (map (λ (p : RawIn). p.name) task.ins))
    (Then (AreNew (in_net 1 net.name) (map (λ (p : RawOut). p.name) task.outs))
    (AreNew (in_net 1 net.name) (map (λ (s : RawSet). s.var) task.set))))

-- the names in a net are those of its conditions, of its tasks, and of its variables
abbrev pub NamesInNet : RawNet → Check
NamesInNet net =
    Then (AreNew (in_net 1 net.name) (named_places net))
    (Then (InTurn (TaskNames net) [] net.task)
    (AreNew (in_net 1 net.name) (map (λ (v : RawVar). v.name) net.vars)))

-- the set has the nodes of a net as far as its first tasks
abbrev pub KnowsNodes : RawNet → NameSet → List RawTask → Type 0
KnowsNodes net set tasks = Knows set (named_places net ++ task_names tasks)

-- the conditions of a net are tried, and seen where nothing is at fault
pub record TriesPlaces (net : RawNet) (new : NameSet) (found : Option Broken) : Type 0 where
  pub finds : AreNew (in_net 1 net.name) (named_places net) found
  pub knows : found ≡ None → KnowsNodes net new []

-- the set has the names of the nets
abbrev pub KnowsNets : NameSet → List RawNet → Type 0
KnowsNets set nets = Knows set (net_names nets)
