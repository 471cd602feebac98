-- Induction over the boxes, in the form that lemmas use.
use Rattle.std.proofs.Common.{List, None, Option, Some, [], map, refl, subst, sym, ◌∙◌, ◌∷◌, ◌≡◌}
use Rattle.std.specs.Prelude.{Box, Vec}
use Rattle.std.specs.declared.alloc.Global.{Global}
use Rattle.yw_sites.proofs.Each.{Each-append}
use Rattle.yw_sites.specs.Idents.{Each}
use Rattle.yw_tree.specs.Boxed.{Held}
use Rattle.yw_tree.specs.Entries.{nodes, row_nodes}
use Rattle.yw_tree.specs.declared.NetState.{NetState, NetState-F, every-NetState, every_held-NetState, ind-NetState, map-NetState, out-roll-NetState, roll-NetState}
use Rattle.yw_tree.specs.declared.NetState.TheShapes.{former-Node-net, former-Node-run}
use Rattle.yw_tree.specs.declared.Node.{Node, Node-F, every-Node, every_held-Node, ind-Node, map-Node, out-Node, out-roll-Node, roll-Node}
use Rattle.yw_tree.specs.declared.Run.{Run, Run-F, every-Run, every_held-Run, ind-Run, map-Run, out-Run, out-roll-Run, roll-Run}

module _ (P : NetState → Type 0) (Q : Node → Type 0) (R : Run → Type 0) where
  abbrev ANet : Type 0
  ANet = (x : NetState) × P x

  abbrev ANode : Type 0
  ANode = (x : Node) × Q x

  abbrev ARun : Type 0
  ARun = (x : Run) × R x

  each : (xs : List ANode) → Each Q (map (λ e. e.0) xs)
  each [] = tt
  each (e ∷ xs) = (e.1, each xs)

  rows_by : (f : Vec ANode Global → Vec Node Global) → ((v : Vec ANode Global) → (f v).items ≡ map (λ e. e.0) v.items) → (vs : List (Vec ANode Global)) → Each Q (row_nodes (map f vs))
  rows_by f h [] = tt
  rows_by f h (v ∷ vs) = Each-append Q (f v).items _ (subst (Each Q) (sym (h v)) (each v.items)) (rows_by f h vs)

  abbrev net_case : Type 0
  net_case = (x : NetState) → Each Q (nodes x) → P x

  abbrev node_case : Type 0
  node_case = (x : Node) → Held P (out-Node x).net → Held R (out-Node x).run → Q x

  abbrev run_case : Type 0
  run_case = (x : Run) → Held P (out-Run x).net → R x

  held_net : (o : Option (Box ANet Global)) → Held P (former-Node-net.map ANet NetState (λ e. e.0) o)
  held_net None = tt
  held_net (Some b) = b.value.1

  held_run : (o : Option (Box ARun Global)) → Held R (former-Node-run.map ARun Run (λ e. e.0) o)
  held_run None = tt
  held_run (Some b) = b.value.1

  module _ (net : net_case) (node : node_case) (run : run_case) where
    net_of : (x : NetState-F NetState Node Run) (y : NetState-F ANet ANode ARun) → map-NetState ANet ANode ARun NetState Node Run (λ e. e.0) (λ e. e.0) (λ e. e.0) y ≡ x → P (roll-NetState x)
    net_of x y is = net (roll-NetState x) (subst (λ (z : NetState-F NetState Node Run). Each Q (row_nodes z.items.items)) (is ∙ sym (out-roll-NetState x)) (rows_by _ (λ v. refl) y.items.items))

    node_of : (x : Node-F NetState Node Run) (y : Node-F ANet ANode ARun) → map-Node ANet ANode ARun NetState Node Run (λ e. e.0) (λ e. e.0) (λ e. e.0) y ≡ x → Q (roll-Node x)
    node_of x y is = node (roll-Node x)
        (subst (λ (z : Node-F NetState Node Run). Held P z.net) (is ∙ sym (out-roll-Node x)) (held_net y.net))
        (subst (λ (z : Node-F NetState Node Run). Held R z.run) (is ∙ sym (out-roll-Node x)) (held_run y.run))

    run_of : (x : Run-F NetState Node Run) (y : Run-F ANet ANode ARun) → map-Run ANet ANode ARun NetState Node Run (λ e. e.0) (λ e. e.0) (λ e. e.0) y ≡ x → R (roll-Run x)
    run_of x y is = run (roll-Run x)
        (subst (λ (z : Run-F NetState Node Run). Held P z.net) (is ∙ sym (out-roll-Run x)) (held_net y.net))

    pub each_net : (x : NetState) → P x
    each_net = ind-NetState P Q R net_of node_of run_of

    pub each_node : (x : Node) → Q x
    each_node = ind-Node P Q R net_of node_of run_of

    pub each_run : (x : Run) → R x
    each_run = ind-Run P Q R net_of node_of run_of

-- ---- a fact of every level: from a level to the levels below
module _ (A : NetState-F NetState Node Run → Type 0) (B : Node-F NetState Node Run → Type 0) (C : Run-F NetState Node Run → Type 0) where
  pub below_every_net : (s : NetState) → every-NetState A B C s → Each (every-Node A B C) (nodes s)
  below_every_net s p =
      let h = every_held-NetState A B C s p in
      subst (λ (z : NetState-F NetState Node Run). Each (every-Node A B C) (row_nodes z.items.items)) h.1 (rows_by (every-NetState A B C) (every-Node A B C) (every-Run A B C) _ (λ v. refl) h.0.items.items)

  pub below_every_node : (n : Node) → every-Node A B C n → Held (every-NetState A B C) (out-Node n).net × Held (every-Run A B C) (out-Node n).run
  below_every_node n p =
      let h = every_held-Node A B C n p in (
        subst (λ (z : Node-F NetState Node Run). Held (every-NetState A B C) z.net) h.1 (held_net (every-NetState A B C) (every-Node A B C) (every-Run A B C) h.0.net),
        subst (λ (z : Node-F NetState Node Run). Held (every-Run A B C) z.run) h.1 (held_run (every-NetState A B C) (every-Node A B C) (every-Run A B C) h.0.run),
      )

  pub below_every_run : (r : Run) → every-Run A B C r → Held (every-NetState A B C) (out-Run r).net
  below_every_run r p =
      let h = every_held-Run A B C r p in
      subst (λ (z : Run-F NetState Node Run). Held (every-NetState A B C) z.net) h.1 (held_net (every-NetState A B C) (every-Node A B C) (every-Run A B C) h.0.net)
