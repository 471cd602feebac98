-- Cycles by numbers are cycles by names, and what they say of OR-joins.
use Rattle.std.proofs.Common.{◌≡◌, ◌↔◌, ℕ, Bool, IsTrue, List, get_or, All, Some, None, Bor, subst, sym}
use Rattle.yw_read.specs.declared.raw.RawFlow.{RawFlow}
use Rattle.yw_read.specs.declared.raw.RawNet.{RawNet}
use Rattle.yw_read.specs.declared.raw.RawTask.{RawTask}
use Rattle.yw_reach.specs.declared.flow.Flow.{Flow}
use Rattle.yw_reach.specs.Flows as by_number
use Rattle.yw_reach.specs.Walks.{CycleAlong}
use Rattle.yw_reach.proofs.Renaming.{named_cycle, numbered_cycle}
use Rattle.yw_accept.specs.declared.broken.Broken.{Broken}
use Rattle.yw_accept.specs.Facts.{NetIsNamed}
use Rattle.yw_accept.specs.Faults.{in_net}
use Rattle.yw_accept.specs.Graph.{OrJoinFits}
use Rattle.yw_accept.specs.Nodes.{HasFlow, nodes}
use Rattle.yw_accept.specs.Order.{InOrder}
use Rattle.yw_check_graph.specs.Graph.{AreNumbered, FindsOrJoin, HasOrJoin}
use Rattle.yw_check_graph.proofs.OrderLemmas.{order_none, order_some}
use Rattle.yw_check_graph.proofs.PathLemmas.{net_renames}

pub cycle_found : (net : RawNet) (names : List (List ℕ)) (said : List RawFlow) (flows : List Flow) (found : Bool) → names ≡ nodes net → said ≡ net.flows → NetIsNamed net → AreNumbered names said flows → (IsTrue found ↔ by_number.Cycle flows) → IsTrue found ↔ CycleAlong (HasFlow net)
cycle_found net names said flows found names_are said_are named numbered h =
    let P : List (List ℕ) → Type 0 = λ ns. AreNumbered ns said flows in
    let Q : List RawFlow → Type 0 = λ ss. AreNumbered (nodes net) ss flows in
    let r = net_renames net flows named (subst Q said_are (subst P names_are numbered)) in
    ((λ t. named_cycle _ _ _ _ r (h.0 t)), (λ c. h.1 (numbered_cycle _ _ _ _ r c)))

pub joins_none : (net : RawNet) (tasks : List RawTask) → tasks ≡ net.task → All (λ task. HasOrJoin task → ⊥) tasks → InOrder (OrJoinFits net) net.task None
joins_none net tasks e h =
    let P : List RawTask → Type 0 = λ ts. All (λ task. HasOrJoin task → ⊥) ts in
    order_none (OrJoinFits net) net.task (λ i d lt. λ or cycle. subst P e h i d lt or)

pub joins_acyclic : (net : RawNet) → (CycleAlong (HasFlow net) → ⊥) → InOrder (OrJoinFits net) net.task None
joins_acyclic net none = order_none (OrJoinFits net) net.task (λ i d lt. λ or cycle. none cycle)

pub joins_cyclic : (net : RawNet) (tasks : List RawTask) (found : Bor RawTask) (broken : Broken) → tasks ≡ net.task → FindsOrJoin tasks (Some found) → CycleAlong (HasFlow net) → broken ≡ in_net 8 net.name found.now.name → InOrder (OrJoinFits net) net.task (Some broken)
joins_cyclic net tasks found broken e h cycle is =
    let P : List RawTask → Type 0 = λ ts. FindsOrJoin ts (Some found) in
    let g : FindsOrJoin net.task (Some found) = subst P e h in
    let same : get_or net.task g.0 found.now ≡ found.now = g.2 found.now in
    let B : RawTask → Type 0 = λ task. OrJoinFits net task (Some broken) in
    order_some (OrJoinFits net) net.task g.0 found.now broken g.1
    (λ i d lt. λ or all. g.4 i d lt or)
    (subst B (sym same) ((λ no. no g.3 cycle), is))
