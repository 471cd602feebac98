-- What checks that find nothing tell of each task, of each net and of the whole.
use Rattle.std.specs.Prelude.{◌≡◌, true, All}
use Rattle.std.specs.List.{list_all}
use Rattle.yw_read.specs.declared.raw.RawNet.{RawNet}
use Rattle.yw_read.specs.declared.raw.RawTask.{RawTask}
use Rattle.yw_read.specs.declared.raw.RawSpec.{RawSpec}
use Rattle.yw_accept.specs.Facts.{IsNamed, NetIsNamed, NetLeads, TaskIsNamed}
use Rattle.yw_accept.specs.Graph.{may_be_child}
use Rattle.yw_accept.specs.Names.{is_usable, may_be_emptied}
use Rattle.yw_accept.specs.Nodes.{leads_to}
use Rattle.yw_accept.specs.Scopes.{ExpressionsFit, ParametersFit}
use Rattle.yw_accept.specs.Tasks.{items_fit, split_fits}

pub record TaskIsReady (raw : RawSpec) (net : RawNet) (task : RawTask) : Type 0 where
  pub name : is_usable task.name ≡ true
  pub named : TaskIsNamed task
  pub removals : list_all (may_be_emptied net) task.remove ≡ true
  pub items : items_fit task ≡ true
  pub child : may_be_child raw task.kind task.net ≡ true
  pub expressions : ExpressionsFit net task
  pub split : split_fits task.split (leads_to net task.name) task.branch ≡ true
  pub parameters : ParametersFit raw net task

pub record NetIsReady (raw : RawSpec) (net : RawNet) : Type 0 where
  pub name : is_usable net.name ≡ true
  pub named : NetIsNamed net
  pub leads : NetLeads net
  pub tasks : All (TaskIsReady raw net) net.task

pub record IsReady (raw : RawSpec) : Type 0 where
  pub named : IsNamed raw
  pub nets : All (NetIsReady raw) raw.net
