-- No specification lacks a verdict.
use Rattle.std.proofs.Common.{ℕ, List, []}
use Rattle.std.specs.Prelude.{map, option_to_list}
use Rattle.yw_accept.specs.Faults.{in_net, of_net}
use Rattle.yw_accept.specs.Graph.{PathsFit, ChildrenFit, LevelsFit, OrJoinsFit, NodeIsOnPath, ChildFits, OrJoinFits}
use Rattle.yw_accept.specs.Names.{NamesFit, FlowsFit, RemovalsFit, AreNew, IsNew, IsUsable, NetNames, TaskNames, FlowFits, RemovalFits}
use Rattle.yw_accept.specs.Nodes.{nodes, named_places}
use Rattle.yw_accept.specs.Order.{Check, InOrder}
use Rattle.yw_accept.specs.Scopes.{SortsFit, ParametersAgree}
use Rattle.yw_accept.specs.Tasks.{ItemsFit, SplitsFit, SizesFit, SplitFits, NetIsSmall}
use Rattle.yw_accept.specs.Verdict.{IsVerdict}
use Rattle.yw_accept.specs.declared.broken.Broken.{Broken}
use Rattle.yw_read.specs.declared.raw.RawNet.{RawNet}
use Rattle.yw_read.specs.declared.raw.RawSpec.{RawSpec}
use Rattle.yw_read.specs.declared.raw.RawTask.{RawTask}
use Rattle.yw_read.specs.declared.raw.RawVar.{RawVar}
use Rattle.yw_texts.proofs.Lacking.{CannotLackFinding, demand_finds, then_finds, in_order_finds, in_turn_finds}

-- a check of each task of each net
by_tasks : (check : RawNet → RawTask → Check) → ((net : RawNet) (task : RawTask) → CannotLackFinding (check net task)) → (raw : RawSpec)
    → CannotLackFinding (InOrder (λ (net : RawNet). InOrder (check net) net.task) raw.net)
by_tasks check each raw = in_order_finds _ (λ net. in_order_finds (check net) (each net) net.task) raw.net

new_finds : (fault : List ℕ → Broken) (names : List (List ℕ)) → CannotLackFinding (AreNew fault names)
new_finds fault names = in_turn_finds (IsNew fault) (λ seen name. demand_finds _ _) [] names

task_names_find : (n : RawNet) (seen : List RawTask) (t : RawTask) → CannotLackFinding (TaskNames n seen t)
task_names_find n seen t =
    then_finds _ _ (demand_finds _ _) (then_finds _ _ (in_order_finds (IsUsable (in_net 1 n.name)) (λ name. demand_finds _ _) (option_to_list t.role))
    (then_finds _ _ (new_finds _ _) (then_finds _ _ (new_finds _ _) (new_finds _ _))))

net_names_find : (seen : List RawNet) (n : RawNet) → CannotLackFinding (NetNames seen n)
net_names_find seen n =
    let fault : List ℕ → Broken = in_net 1 n.name in
    then_finds _ _ (demand_finds _ (of_net 1 n.name)) (then_finds _ _ (new_finds fault (named_places n))
    (then_finds _ _ (in_turn_finds (TaskNames n) (task_names_find n) [] n.task) (new_finds fault (map (λ (v : RawVar). v.name) n.vars))))

names_find : (raw : RawSpec) → CannotLackFinding (NamesFit raw)
unfolding NamesFit
names_find raw = then_finds _ _ (demand_finds _ _) (then_finds _ _ (demand_finds _ _) (in_turn_finds NetNames net_names_find [] raw.net))

flows_find : (raw : RawSpec) → CannotLackFinding (FlowsFit raw)
unfolding FlowsFit
flows_find raw = in_order_finds _ (λ net. in_turn_finds (FlowFits net) (λ seen flow. demand_finds _ _) [] net.flows) raw.net

paths_find : (raw : RawSpec) → CannotLackFinding (PathsFit raw)
unfolding PathsFit
paths_find raw = in_order_finds _ (λ net. in_order_finds (NodeIsOnPath net) (λ node. demand_finds _ _) (nodes net)) raw.net

removals_find : (raw : RawSpec) → CannotLackFinding (RemovalsFit raw)
unfolding RemovalsFit
removals_find raw = by_tasks RemovalFits (λ net task. demand_finds _ _) raw

items_find : (raw : RawSpec) → CannotLackFinding (ItemsFit raw)
unfolding ItemsFit
items_find raw = by_tasks _ (λ net task. demand_finds _ _) raw

children_find : (raw : RawSpec) → CannotLackFinding (ChildrenFit raw)
unfolding ChildrenFit
children_find raw = then_finds _ _ (by_tasks (ChildFits raw) (λ net task. demand_finds _ _) raw) (in_order_finds _ (λ net. demand_finds _ _) raw.net)

levels_find : (raw : RawSpec) → CannotLackFinding (LevelsFit raw)
unfolding LevelsFit
levels_find raw = in_order_finds _ (λ net. demand_finds _ _) raw.net

or_joins_find : (raw : RawSpec) → CannotLackFinding (OrJoinsFit raw)
unfolding OrJoinsFit
or_joins_find raw = by_tasks OrJoinFits (λ net task. demand_finds _ _) raw

sorts_find : (raw : RawSpec) → CannotLackFinding (SortsFit raw)
unfolding SortsFit
sorts_find raw = by_tasks _ (λ net task. demand_finds _ _) raw

splits_find : (raw : RawSpec) → CannotLackFinding (SplitsFit raw)
unfolding SplitsFit
splits_find raw = by_tasks SplitFits (λ net task. demand_finds _ _) raw

parameters_find : (raw : RawSpec) → CannotLackFinding (ParametersAgree raw)
unfolding ParametersAgree
parameters_find raw = by_tasks _ (λ net task. demand_finds _ _) raw

sizes_find : (raw : RawSpec) → CannotLackFinding (SizesFit raw)
unfolding SizesFit
sizes_find raw =
    then_finds _ _ (demand_finds _ _) (in_order_finds NetIsSmall (λ net. then_finds _ _ (demand_finds _ _) (in_order_finds _ (λ task. demand_finds _ _) net.task)) raw.net)

pub verdict_finds : (raw : RawSpec) → CannotLackFinding (IsVerdict raw)
unfolding IsVerdict
verdict_finds raw =
    then_finds _ _ (names_find raw) (then_finds _ _ (flows_find raw) (then_finds _ _ (paths_find raw) (then_finds _ _ (removals_find raw)
    (then_finds _ _ (items_find raw) (then_finds _ _ (children_find raw) (then_finds _ _ (levels_find raw) (then_finds _ _ (or_joins_find raw)
    (then_finds _ _ (sorts_find raw) (then_finds _ _ (splits_find raw) (then_finds _ _ (parameters_find raw) (sizes_find raw)))))))))))
