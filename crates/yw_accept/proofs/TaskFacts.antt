-- What checks that find nothing tell of each task of each net.
use Rattle.std.proofs.Common.{◌≡◌, ℕ, Bool, true, List, get_or, None, All, Contains, subst, arith}
use Rattle.std.specs.Prelude.{filter}
use Rattle.std.specs.List.{list_all}
use Rattle.std.specs.Str.{bytes_eq}
use Rattle.std.proofs.lemmas.Bool.{and_parts}
use Rattle.std.proofs.lemmas.Bool.Decides.{nat_tests}
use Rattle.std.proofs.lemmas.List.Elements.{All-contains, All-filter, All-contains_itself, filter_passes}
use Rattle.std.proofs.lemmas.List.Sums.{AllPass-from_list_all}
use Rattle.std.proofs.lemmas.Slice.Eq.{bytes_eq-Decides}
use Rattle.yw_base.specs.declared.gate.Gate.{Gate}
use Rattle.yw_base.specs.declared.gate.Gate.TheVariants as gates
use Rattle.yw_read.specs.declared.raw.RawBranch.{RawBranch}
use Rattle.yw_read.specs.declared.raw.RawFlow.{RawFlow}
use Rattle.yw_read.specs.declared.raw.RawNet.{RawNet}
use Rattle.yw_read.specs.declared.raw.RawSpec.{RawSpec}
use Rattle.yw_read.specs.declared.raw.RawTask.{RawTask}
use Rattle.yw_accept.specs.Faults.{in_net}
use Rattle.yw_accept.specs.Graph.{ChildrenFit, ChildFits, may_be_child}
use Rattle.yw_accept.specs.Names.{NamesFit, FlowsFit, RemovalsFit, RemovalFits, may_be_emptied}
use Rattle.yw_accept.specs.Nodes.{is_name_among, leads_to, HasFlow}
use Rattle.yw_accept.specs.Order.{Check, Demand, InOrder}
use Rattle.yw_accept.specs.Scopes.{SortsFit, ParametersAgree, ExpressionsFit, ParametersFit}
use Rattle.yw_accept.specs.Tasks.{ItemsFit, SplitsFit, SplitFits, items_fit, split_fits}
use Rattle.yw_accept.specs.Verdict.{IsVerdict}
use Rattle.yw_accept.proofs.Among.{among_contains}
use Rattle.yw_accept.proofs.FactsLemmas.{order_all}
use Rattle.yw_accept.proofs.Lists.{contains_unmap, empty_all}

-- a fact of each task of each net
abbrev pub Everywhere : (RawNet → RawTask → Type 0) → RawSpec → Type 0
Everywhere P raw = All (λ (net : RawNet). All (P net) net.task) raw.net

everywhere : (check : RawNet → RawTask → Check) (raw : RawSpec) → InOrder (λ (net : RawNet). InOrder (check net) net.task) raw.net None → Everywhere (λ net task. check net task None) raw
everywhere check raw h i d lt = order_all (check (get_or raw.net i d)) (get_or raw.net i d).task (order_all (λ (net : RawNet). InOrder (check net) net.task) raw.net h i d lt)

-- the checks that tell of what is built found nothing
pub record FindNothing (raw : RawSpec) : Type 0 where
  pub names : NamesFit raw None
  pub flows : FlowsFit raw None
  pub removals : RemovalsFit raw None
  pub items : ItemsFit raw None
  pub children : ChildrenFit raw None
  pub sorts : SortsFit raw None
  pub splits : SplitsFit raw None
  pub parameters : ParametersAgree raw None

pub find_nothing : (raw : RawSpec) → IsVerdict raw None → FindNothing raw
unfolding IsVerdict
find_nothing raw (names, (flows, (paths, (removals, (items, (children, (levels, (or_joins, (sorts, (splits, (parameters, sizes))))))))))) = record {
  names = names;
  flows = flows;
  removals = removals;
  items = items;
  children = children;
  sorts = sorts;
  splits = splits;
  parameters = parameters;
}

pub removals_fit : (raw : RawSpec) → RemovalsFit raw None → Everywhere (λ net task. list_all (may_be_emptied net) task.remove ≡ true) raw
unfolding RemovalsFit
removals_fit raw h = everywhere RemovalFits raw h

pub each_fits : (raw : RawSpec) → ItemsFit raw None → Everywhere (λ net task. items_fit task ≡ true) raw
unfolding ItemsFit
each_fits raw h = everywhere (λ net task. Demand (items_fit task ≡ true) (in_net 5 net.name task.name)) raw h

pub children_fit : (raw : RawSpec) → ChildrenFit raw None → Everywhere (λ net task. may_be_child raw task.kind task.net ≡ true) raw
unfolding ChildrenFit
children_fit raw h = λ i d lt j e le. (everywhere (ChildFits raw) raw h.0 i d lt j e le).0

pub sorts_fit : (raw : RawSpec) → SortsFit raw None → Everywhere ExpressionsFit raw
unfolding SortsFit
sorts_fit raw h = everywhere (λ net task. Demand (ExpressionsFit net task) (in_net 9 net.name task.name)) raw h

pub splits_fit : (raw : RawSpec) → SplitsFit raw None → Everywhere (λ net task. split_fits task.split (leads_to net task.name) task.branch ≡ true) raw
unfolding SplitsFit
splits_fit raw h = everywhere SplitFits raw h

pub parameters_agree : (raw : RawSpec) → ParametersAgree raw None → Everywhere (ParametersFit raw) raw
unfolding ParametersAgree
parameters_agree raw h = everywhere (λ net task. Demand (ParametersFit raw net task) (in_net 11 net.name task.name)) raw h

-- ---- branches

-- a split that fits leads to outputs alone
pub to_outputs : (gate : Gate) (outputs : List (List ℕ)) (branches : List RawBranch) → split_fits gate outputs branches ≡ true → All (λ (b : RawBranch). is_name_among outputs b.to ≡ true) branches
to_outputs gates.And outputs branches h = empty_all (λ (b : RawBranch). is_name_among outputs b.to ≡ true) branches (grind (arith, nat_tests))
to_outputs gates.Xor outputs branches h = AllPass-from_list_all (λ (b : RawBranch). is_name_among outputs b.to) branches (and_parts _ _ (and_parts _ _ h).0).0
to_outputs gates.Or outputs branches h = AllPass-from_list_all (λ (b : RawBranch). is_name_among outputs b.to) branches (and_parts _ _ (and_parts _ _ h).0).0

-- to an output goes a flow
pub flow_to : (net : RawNet) (node to : List ℕ) → is_name_among (leads_to net node) to ≡ true → HasFlow net node to
flow_to net node to h =
    let from_node : RawFlow → Bool = λ flow. bytes_eq flow.from node in
    let (flow, there, is_to) = contains_unmap (λ (f : RawFlow). f.to) (filter from_node net.flows) to (among_contains (leads_to net node) to h) in
    let is_from : flow.from ≡ node = (bytes_eq-Decides flow.from node).0 (All-contains (λ f. from_node f ≡ true) (filter from_node net.flows) flow (filter_passes from_node net.flows) there) in
    let among : Contains net.flows flow = All-contains (Contains net.flows) (filter from_node net.flows) flow (All-filter from_node (Contains net.flows) net.flows (All-contains_itself net.flows)) there in
    let P : List ℕ → List ℕ → Type 0 = λ a b. Contains net.flows (record { from = a; to = b }) in
    subst (λ b. P node b) is_to (subst (λ a. P a flow.to) is_from among)
