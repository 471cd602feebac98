-- What checks that find nothing tell of a specification.
use Rattle.std.specs.Prelude.{◌≡◌, ℕ, ◌<◌, List, [], length, get_or, map, true, All, option_to_list}
use Rattle.yw_read.specs.declared.raw.RawFlow.{RawFlow}
use Rattle.yw_read.specs.declared.raw.RawIn.{RawIn}
use Rattle.yw_read.specs.declared.raw.RawOut.{RawOut}
use Rattle.yw_read.specs.declared.raw.RawSet.{RawSet}
use Rattle.yw_read.specs.declared.raw.RawVar.{RawVar}
use Rattle.yw_read.specs.declared.raw.RawTask.{RawTask}
use Rattle.yw_read.specs.declared.raw.RawNet.{RawNet}
use Rattle.yw_read.specs.declared.raw.RawSpec.{RawSpec}
use Rattle.yw_accept.specs.Names.{is_usable, may_lead}
use Rattle.yw_accept.specs.Nodes.{net_names, nodes, is_net, is_name_among}

-- no name stands at two places
abbrev pub AreDistinct : List (List ℕ) → Type 0
AreDistinct names = (i j : ℕ) → i < length names → j < length names → get_or names i [] ≡ get_or names j [] → i ≡ j

-- each is a name that may be used, and no two are equal
pub record AreNames (names : List (List ℕ)) : Type 0 where
  pub usable : All (λ name. is_usable name ≡ true) names
  pub distinct : AreDistinct names

pub record TaskIsNamed (task : RawTask) : Type 0 where
  pub role : All (λ name. is_usable name ≡ true) (option_to_list task.role)
  pub ins : AreNames (map (λ (p : RawIn). p.name) task.ins)
  pub outs : AreNames (map (λ (p : RawOut). p.name) task.outs)
  pub set : AreNames (map (λ (s : RawSet). s.var) task.set)

pub record NetIsNamed (net : RawNet) : Type 0 where
  pub nodes_are : AreNames (nodes net)
  pub vars : AreNames (map (λ (v : RawVar). v.name) net.vars)
  pub tasks : All TaskIsNamed net.task

-- what the first check tells
pub record IsNamed (raw : RawSpec) : Type 0 where
  pub name : is_usable raw.name ≡ true
  pub top : is_net raw raw.top ≡ true
  pub nets_are : AreNames (net_names raw.net)
  pub nets : All NetIsNamed raw.net

-- both ends are names that may be used
abbrev pub HasUsableEnds : RawFlow → Type 0
HasUsableEnds flow = (is_usable flow.from ≡ true) × (is_usable flow.to ≡ true)

-- what the second check tells of a net
pub record NetLeads (net : RawNet) : Type 0 where
  pub leads : All (λ flow. may_lead net flow ≡ true) net.flows
  pub from : All (λ (flow : RawFlow). is_name_among (nodes net) flow.from ≡ true) net.flows
  pub to : All (λ (flow : RawFlow). is_name_among (nodes net) flow.to ≡ true) net.flows
