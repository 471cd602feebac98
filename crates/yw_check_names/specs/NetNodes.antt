-- Which sets a net's conditions and tasks are in.
use Rattle.yw_read.specs.declared.raw.RawNet.{RawNet}
use Rattle.yw_accept.specs.Nodes.{task_names}
use Rattle.yw_check_names.specs.declared.net_nodes.NetNodes.{NetNodes}
use Rattle.yw_check_names.specs.Seen.{Knows}

pub record AreNodes (net : RawNet) (nodes : NetNodes) : Type 0 where
  pub conditions : Knows nodes.conditions net.conditions
  pub tasks : Knows nodes.tasks (task_names net.task)
