-- Paths by numbers are paths by names.
use Rattle.std.proofs.Common.{ℕ, zero, suc, ◌<◌, List, [], length, get_or, Option, Some, None, refl, ap, subst, arith}
use Rattle.std.proofs.lemmas.List.{get_or_default}
use Rattle.yw_read.specs.declared.raw.RawFlow.{RawFlow}
use Rattle.yw_read.specs.declared.raw.RawNet.{RawNet}
use Rattle.yw_reach.specs.declared.flow.Flow.{Flow}
use Rattle.yw_reach.specs.Flows as by_number
use Rattle.yw_reach.specs.Renaming.{IsPairing, Renames}
use Rattle.yw_reach.proofs.Renaming.{named_path, numbered_path, pairs_rename}
use Rattle.yw_accept.specs.Facts.{NetIsNamed}
use Rattle.yw_accept.specs.Faults.{in_net}
use Rattle.yw_accept.specs.Graph.{IsOnPath, NodeIsOnPath}
use Rattle.yw_accept.specs.Nodes.{HasFlow, nodes}
use Rattle.yw_check_graph.specs.Graph.{AreNumbered, FindsOffPath, flow_between, name_at}
use Rattle.yw_check_graph.proofs.OrderLemmas.{order_none, order_some}

pub pairing : IsPairing flow_between
pairing x y x2 y2 e = (ap (λ (f : RawFlow). f.from) e, ap (λ (f : RawFlow). f.to) e)

pub net_renames : (net : RawNet) (flows : List Flow) → NetIsNamed net → AreNumbered (nodes net) net.flows flows → Renames (length (nodes net)) (name_at (nodes net)) (by_number.HasFlow flows) (HasFlow net)
net_renames net flows named numbered =
    pairs_rename (length (nodes net)) (name_at (nodes net)) flow_between net.flows flows named.nodes_are.distinct pairing numbered.within numbered.same

module _ (net : RawNet) (flows : List Flow) (named : NetIsNamed net) (numbered : AreNumbered (nodes net) net.flows flows) where
  abbrev renames : Renames (length (nodes net)) (name_at (nodes net)) (by_number.HasFlow flows) (HasFlow net)
  renames = net_renames net flows named numbered

  input_is : zero < length (nodes net)
  input_is = omega arith

  output_is : suc zero < length (nodes net)
  output_is = omega arith

  on_path : (k : ℕ) → by_number.IsOnPath flows 0 1 k → IsOnPath net (name_at (nodes net) k)
  on_path k h = (named_path _ _ _ _ renames 0 k h.0, named_path _ _ _ _ renames k 1 h.1)

  on_path_by_number : (k : ℕ) → k < length (nodes net) → IsOnPath net (name_at (nodes net) k) → by_number.IsOnPath flows 0 1 k
  on_path_by_number k lt h = (numbered_path _ _ _ _ renames 0 k input_is lt h.0, numbered_path _ _ _ _ renames k 1 lt output_is h.1)

  on_path_at : (k : ℕ) (d : List ℕ) → k < length (nodes net) → by_number.IsOnPath flows 0 1 k → IsOnPath net (get_or (nodes net) k d)
  on_path_at k d lt h = let P : List ℕ → Type 0 = λ x. IsOnPath net x in subst P (get_or_default (nodes net) k [] d lt) (on_path k h)

  pub finds_off_path : (r : Option ℕ) → by_number.IsFirstOffPath (length (nodes net)) flows 0 1 r → FindsOffPath net r
  finds_off_path None h = order_none (NodeIsOnPath net) (nodes net) (λ k d lt. on_path_at k d lt (h k lt))
  finds_off_path (Some k) h = (
    h.0,
    order_some (NodeIsOnPath net) (nodes net) k [] (in_net 3 net.name (name_at (nodes net) k)) h.0
        (λ i d lt. on_path_at i d (omega (arith, lt, h.0)) (h.1 i lt))
        ((λ on. h.2 (on_path_by_number k h.0 on)), refl),
  )
