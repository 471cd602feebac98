-- What a set knows of flows, and whether one fits beside those seen.
use Rattle.std.specs.Prelude.{◌≡◌, ◌&&◌, ◌++◌, List, [], ◌∷◌, map, Bool, true, not, All}
use Rattle.std.specs.List.{list_any}
use Rattle.yw_base.specs.Spelling.{is_name}
use Rattle.yw_read.specs.declared.raw.RawFlow.{RawFlow}
use Rattle.yw_read.specs.declared.raw.RawNet.{RawNet}
use Rattle.yw_accept.specs.Names.{may_lead, is_same_flow}
use Rattle.yw_accept.specs.Nodes.{arrow}
use Rattle.yw_check_names.specs.Seen.{NameSet, Knows}

-- the set has the flows, each as `from->to`, which no two flows share that leave nodes with names
pub record KnowsFlows (set : NameSet) (flows : List RawFlow) : Type 0 where
  pub named : All (λ (flow : RawFlow). is_name flow.from ≡ true) flows
  pub arrows : Knows set (map arrow flows)

-- whether the flow may stand in the net and wasn't seen before; then it is seen
pub record NotesFlow (net : RawNet) (old new : NameSet) (flow : RawFlow) (good : Bool) : Type 0 where
  pub is_new : (flows : List RawFlow) → KnowsFlows old flows → good ≡ (may_lead net flow && not (list_any (is_same_flow flow) flows))
  pub knows : (flows : List RawFlow) → KnowsFlows old flows → good ≡ true → KnowsFlows new (flows ++ flow ∷ [])
