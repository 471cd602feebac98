-- What marks of the nets by numbers say of the nets.
use Rattle.std.proofs.Common.{◌≡◌, ℕ, ◌<◌, Bool, List, length, get_or, Some, None, Contains, refl, sym, ap, ◌∙◌, subst, arith}
use Rattle.std.proofs.lemmas.List.{get_or_default}
use Rattle.yw_read.specs.declared.raw.RawNet.{RawNet}
use Rattle.yw_read.specs.declared.raw.RawSpec.{RawSpec}
use Rattle.yw_reach.specs.Flows as by_number
use Rattle.yw_reach.specs.Marking.{AreMarked, Marked}
use Rattle.yw_reach.specs.Renaming.{Renames}
use Rattle.yw_reach.specs.Walks.{PathAlong, IsBehindAlong, WalkAlong}
use Rattle.yw_reach.proofs.Renaming.{named_path, numbered_path, numbered_cycle, named_behind, numbered_behind}
use Rattle.yw_reach.proofs.Walks.{cycle_closes, walk_ends, walk_weaker}
use Rattle.yw_accept.specs.declared.broken.Broken.{Broken}
use Rattle.yw_accept.specs.Facts.{IsNamed}
use Rattle.yw_accept.specs.Faults.{of_net}
use Rattle.yw_accept.specs.Graph.{Holds, IsReached, most_levels}
use Rattle.yw_accept.specs.Nodes.{net_names}
use Rattle.yw_accept.specs.Order.{Demand, InOrder}
use Rattle.yw_check_graph.specs.declared.nets.NetGraph.{NetGraph}
use Rattle.yw_check_graph.specs.Graph.{name_at}
use Rattle.yw_check_graph.specs.Nets.{IsFirstWithout, IsNetGraph, NetIsReached, TellsBack}
use Rattle.yw_check_graph.proofs.ChildLemmas.{HoldsNet, is_net_at, is_net_of, nets_rename, nets_walk}
use Rattle.yw_check_graph.proofs.FirstLemmas.{first_none, first_some}
use Rattle.yw_check_graph.proofs.LinkLemmas.{count_of_nets, name_of_net}

module _ (raw : RawSpec) (graph : NetGraph) (named : IsNamed raw) (is_graph : IsNetGraph raw graph) where
  abbrev name : ℕ → List ℕ
  name k = name_at (net_names raw.net) k

  abbrev renames : Renames (length (net_names raw.net)) (name_at (net_names raw.net)) (by_number.HasFlow graph.flows.items) (HoldsNet raw)
  renames = nets_rename raw graph.flows.items named.nets_are.distinct is_graph.numbered

  has_number : (k : ℕ) → k < length raw.net → k < length (net_names raw.net)
  has_number k lt = omega (arith, lt, count_of_nets raw.net)

  holds_walk : (x y : List ℕ) (n : ℕ) → WalkAlong (HoldsNet raw) x y n → WalkAlong (Holds raw) x y n
  holds_walk x y n w = walk_weaker (HoldsNet raw) (Holds raw) (λ x y h. h.0) x y n w

  path_named : (j k : ℕ) (x y : List ℕ) → name j ≡ x → name k ≡ y → by_number.Path graph.flows.items j k → PathAlong (Holds raw) x y
  path_named j k x y is_x is_y p =
      let q = named_path _ _ _ _ renames j k p in
      (q.0, walk_ends (Holds raw) (name j) x (name k) y q.0 is_x is_y (holds_walk (name j) (name k) q.0 q.1))

  path_numbered : (j k : ℕ) (x y : List ℕ) → j < length (net_names raw.net) → k < length (net_names raw.net) → name j ≡ x → name k ≡ y → PathAlong (Holds raw) x y → by_number.Path graph.flows.items j k
  path_numbered j k x y lj lk is_x is_y p =
      let w = walk_ends (Holds raw) x (name j) y (name k) p.0 (sym is_x) (sym is_y) p.1 in
      numbered_path _ _ _ _ renames j k lj lk (p.0, (nets_walk raw (name j) (name k) p.0 (is_net_at raw k lk) w).1)

  behind_named : (k n : ℕ) (y : List ℕ) → name k ≡ y → by_number.IsBehind graph.flows.items graph.top k n → IsBehindAlong (Holds raw) raw.top y n
  behind_named k n y is p =
      let q = named_behind _ _ _ _ renames graph.top k n p in
      (q.0, q.1, walk_ends (Holds raw) (name graph.top) raw.top (name k) y q.0 is_graph.top_name is (holds_walk (name graph.top) (name k) q.0 q.2))

  behind_numbered : (k n : ℕ) (y : List ℕ) → k < length (net_names raw.net) → name k ≡ y → IsBehindAlong (Holds raw) raw.top y n → by_number.IsBehind graph.flows.items graph.top k n
  behind_numbered k n y lt is p =
      let w = walk_ends (Holds raw) raw.top (name graph.top) y (name k) p.0 (sym is_graph.top_name) (sym is) p.2 in
      numbered_behind _ _ _ _ renames graph.top k n is_graph.top_within lt (p.0, p.1, (nets_walk raw (name graph.top) (name k) p.0 (is_net_at raw k lt) w).1)

  -- ---- nets that lead back

  module _ (number : ℕ) (d : RawNet) (lt : number < length raw.net) where
    abbrev net : RawNet
    net = get_or raw.net number d

    there : Contains raw.net net
    there = (number, lt, get_or_default raw.net number net d lt)

    pub none_back : (by_number.Cycle graph.flows.items → ⊥) → TellsBack raw net None
    none_back acyclic = λ task in_net back.
        let w = nets_walk raw back.0 net.name back.2.0 (is_net_of raw net there) back.2.1 in
        let step : HoldsNet raw net.name back.0 = ((net, there, refl, task, in_net, back.1), w.0) in
        acyclic (numbered_cycle _ _ _ _ renames (cycle_closes (HoldsNet raw) net.name back.0 step (back.2.0, w.1)))

    pub marked_back : (marks : List Bool) → AreMarked graph.count (λ k. by_number.Path graph.flows.items k number) marks → TellsBack raw net (Some marks)
    marked_back marks marked =
        let is : name number ≡ net.name = name_of_net raw.net number d lt in (
          marked.len ∙ is_graph.count,
          λ k le. (
            (λ m. path_named k number (name k) net.name refl is (marked.only k m)),
            (λ p. marked.all k (path_numbered k number (name k) net.name (has_number k le) (has_number number lt) refl is p)),
          ),
        )

  -- ---- nets that are reached

  module _ (marks : List Bool) (marked : AreMarked graph.count (λ k. by_number.Path graph.flows.items graph.top k) marks) where
    is_reached : (k : ℕ) (d : RawNet) → k < length raw.net → Marked marks k → IsReached raw (get_or raw.net k d)
    is_reached k d lt m = path_named graph.top k raw.top (get_or raw.net k d).name is_graph.top_name (name_of_net raw.net k d lt) (marked.only k m)

    is_marked : (k : ℕ) (d : RawNet) → k < length raw.net → IsReached raw (get_or raw.net k d) → Marked marks k
    is_marked k d lt p = marked.all k (path_numbered graph.top k raw.top (get_or raw.net k d).name is_graph.top_within (has_number k lt) is_graph.top_name (name_of_net raw.net k d lt) p)

    pub reached_none : IsFirstWithout (Marked marks) (length marks) None → InOrder (NetIsReached raw) raw.net None
    reached_none h = first_none (IsReached raw) (λ (net : RawNet). of_net 6 net.name) (Marked marks) raw.net (length marks) (marked.len ∙ is_graph.count) is_reached h

    pub reached_some : (found : ℕ) (broken : Broken) → IsFirstWithout (Marked marks) (length marks) (Some found) → broken ≡ of_net 6 (name_at (net_names raw.net) found) → InOrder (NetIsReached raw) raw.net (Some broken)
    reached_some found broken h is =
        first_some (IsReached raw) (λ (net : RawNet). of_net 6 net.name) (Marked marks) raw.net (length marks) (marked.len ∙ is_graph.count) is_reached is_marked found broken h
        (λ d. is ∙ ap (of_net 6) (name_of_net raw.net found d (omega (arith, h.0, marked.len, is_graph.count))))

  -- ---- nets that aren't too deep

  module _ (marks : List Bool) (marked : AreMarked graph.count (λ k. by_number.IsBehind graph.flows.items graph.top k most_levels) marks) where
    abbrev IsShallow : RawNet → Type 0
    IsShallow net = IsBehindAlong (Holds raw) raw.top net.name most_levels → ⊥

    shallow : (k : ℕ) (d : RawNet) → k < length raw.net → (Marked marks k → ⊥) → IsShallow (get_or raw.net k d)
    shallow k d lt unmarked = λ deep. unmarked (marked.all k (behind_numbered k most_levels (get_or raw.net k d).name (has_number k lt) (name_of_net raw.net k d lt) deep))

    not_marked : (k : ℕ) (d : RawNet) → k < length raw.net → IsShallow (get_or raw.net k d) → Marked marks k → ⊥
    not_marked k d lt h = λ m. h (behind_named k most_levels (get_or raw.net k d).name (name_of_net raw.net k d lt) (marked.only k m))

    pub levels_none : IsFirstWithout (λ k. Marked marks k → ⊥) (length marks) None → InOrder (λ (net : RawNet). Demand (IsBehindAlong (Holds raw) raw.top net.name most_levels → ⊥) (of_net 7 net.name)) raw.net None
    levels_none h = first_none IsShallow (λ (net : RawNet). of_net 7 net.name) (λ k. Marked marks k → ⊥) raw.net (length marks) (marked.len ∙ is_graph.count) shallow h

    pub levels_some : (found : ℕ) (broken : Broken) → IsFirstWithout (λ k. Marked marks k → ⊥) (length marks) (Some found) → broken ≡ of_net 7 (name_at (net_names raw.net) found) → InOrder (λ (net : RawNet). Demand (IsBehindAlong (Holds raw) raw.top net.name most_levels → ⊥) (of_net 7 net.name)) raw.net (Some broken)
    levels_some found broken h is =
        first_some IsShallow (λ (net : RawNet). of_net 7 net.name) (λ k. Marked marks k → ⊥) raw.net (length marks) (marked.len ∙ is_graph.count) shallow not_marked found broken h
        (λ d. is ∙ ap (of_net 7) (name_of_net raw.net found d (omega (arith, h.0, marked.len, is_graph.count))))
