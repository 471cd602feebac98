-- A fact of every level, from its parts.
use Rattle.std.below.std_alloc.specs.formers.vec.Vec.{fits, holding, holding_along, mapped}
use Rattle.std.proofs.Common.{List, None, Option, Some, [], ap, length, map, refl, suc, ◌∷◌, ◌≡◌}
use Rattle.std.specs.Prelude.{Box, Vec}
use Rattle.std.specs.declared.alloc.Global.{Global}
use Rattle.yw_sites.proofs.Each.{Each-back, Each-front}
use Rattle.yw_sites.specs.Idents.{Each}
use Rattle.yw_tree.specs.Boxed.{Held}
use Rattle.yw_tree.specs.Entries.{row_nodes}
use Rattle.yw_tree.specs.declared.NetState.{NetState, NetState-F, every-NetState, every_made-NetState, roll-NetState}
use Rattle.yw_tree.specs.declared.NetState.TheShapes.{former-Node-net, former-Node-run}
use Rattle.yw_tree.specs.declared.Node.{Node, Node-F, every-Node, every_made-Node, roll-Node}
use Rattle.yw_tree.specs.declared.Run.{Run, Run-F, every-Run, every_made-Run, roll-Run}

module _ (A : NetState-F NetState Node Run → Type 0) (B : Node-F NetState Node Run → Type 0) (C : Run-F NetState Node Run → Type 0) where
  abbrev PNet : Type 0
  PNet = (z : NetState) × every-NetState A B C z

  abbrev PNode : Type 0
  PNode = (z : Node) × every-Node A B C z

  abbrev PRun : Type 0
  PRun = (z : Run) × every-Run A B C z

  abbrev pairs : (xs : List Node) → Each (every-Node A B C) xs → List PNode
  pairs [] p = []
  pairs (x ∷ xs) p = (x, p.0) ∷ pairs xs p.1

  length-pairs : (xs : List Node) (p : Each (every-Node A B C) xs) → length (pairs xs p) ≡ length xs
  length-pairs [] p = refl
  length-pairs (x ∷ xs) p = ap suc (length-pairs xs p.1)

  pairs_are : (xs : List Node) (p : Each (every-Node A B C) xs) → map (λ e. e.0) (pairs xs p) ≡ xs
  pairs_are [] p = refl
  pairs_are (x ∷ xs) p = ap (λ z. x ∷ z) (pairs_are xs p.1)

  abbrev vec_of : (v : Vec Node Global) → Each (every-Node A B C) v.items → Vec PNode Global
  vec_of v p = holding v (pairs v.items p) (fits v (pairs v.items p) (length-pairs v.items p))

  vec_is : (v : Vec Node Global) (p : Each (every-Node A B C) v.items) → mapped (λ e. e.0) (vec_of v p) ≡ v
  vec_is v p = holding_along v _ _ (pairs_are v.items p) (mapped (λ (e : PNode). e.0) (vec_of v p)).ok v.ok

  abbrev rows : (vs : List (Vec Node Global)) → Each (every-Node A B C) (row_nodes vs) → List (Vec PNode Global)
  rows [] p = []
  rows (v ∷ vs) p = vec_of v (Each-front (every-Node A B C) v.items (row_nodes vs) p) ∷ rows vs (Each-back (every-Node A B C) v.items (row_nodes vs) p)

  length-rows : (vs : List (Vec Node Global)) (p : Each (every-Node A B C) (row_nodes vs)) → length (rows vs p) ≡ length vs
  length-rows [] p = refl
  length-rows (v ∷ vs) p = ap suc (length-rows vs (Each-back (every-Node A B C) v.items (row_nodes vs) p))

  rows_are : (vs : List (Vec Node Global)) (p : Each (every-Node A B C) (row_nodes vs)) → map (mapped (λ (e : PNode). e.0)) (rows vs p) ≡ vs
  rows_are [] p = refl
  rows_are (v ∷ vs) p = (λ j. vec_is v (Each-front (every-Node A B C) v.items (row_nodes vs) p) j ∷ rows_are vs (Each-back (every-Node A B C) v.items (row_nodes vs) p) j)

  abbrev table_of : (t : Vec (Vec Node Global) Global) → Each (every-Node A B C) (row_nodes t.items) → Vec (Vec PNode Global) Global
  table_of t p = holding t (rows t.items p) (fits t (rows t.items p) (length-rows t.items p))

  table_is : (t : Vec (Vec Node Global) Global) (p : Each (every-Node A B C) (row_nodes t.items)) → mapped (mapped (λ (e : PNode). e.0)) (table_of t p) ≡ t
  table_is t p = holding_along t _ _ (rows_are t.items p) (mapped (mapped (λ (e : PNode). e.0)) (table_of t p)).ok t.ok

  net_pair : (o : Option (Box NetState Global)) → Held (every-NetState A B C) o → (y : Option (Box PNet Global)) × (former-Node-net.map PNet NetState (λ e. e.0) y ≡ o)
  net_pair None p = (None, refl)
  net_pair (Some b) p = (Some (record { ptr = b.ptr; alloc = b.alloc; value = (b.value, p) }), refl)

  run_pair : (o : Option (Box Run Global)) → Held (every-Run A B C) o → (y : Option (Box PRun Global)) × (former-Node-run.map PRun Run (λ e. e.0) y ≡ o)
  run_pair None p = (None, refl)
  run_pair (Some b) p = (Some (record { ptr = b.ptr; alloc = b.alloc; value = (b.value, p) }), refl)

  pub made_net : (l : NetState-F NetState Node Run) → A l → Each (every-Node A B C) (row_nodes l.items.items) → every-NetState A B C (roll-NetState l)
  made_net l q p =
      let y : NetState-F PNet PNode PRun = record { spec = l.spec; net = l.net; marks = l.marks; vals = l.vals; items = table_of l.items p } in
      every_made-NetState A B C l y (λ j. record l { items = table_is l.items p j }) q

  pub made_node : (l : Node-F NetState Node Run) → B l → Held (every-NetState A B C) l.net → Held (every-Run A B C) l.run → every-Node A B C (roll-Node l)
  made_node l q p r =
      let m = net_pair l.net p in
      let n = run_pair l.run r in
      let y : Node-F PNet PNode PRun = record { id = l.id; task = l.task; stage = l.stage; given = l.given; made = l.made; who = l.who; net = m.0; suspended = l.suspended; due = l.due; run = n.0 } in
      every_made-Node A B C l y (λ j. record l { net = m.1 j; run = n.1 j }) q

  pub made_run : (l : Run-F NetState Node Run) → C l → Held (every-NetState A B C) l.net → every-Run A B C (roll-Run l)
  made_run l q p =
      let m = net_pair l.net p in
      let y : Run-F PNet PNode PRun = record { id = l.id; rest = l.rest; waiting = l.waiting; net = m.0 } in
      every_made-Run A B C l y (λ j. record l { net = m.1 j }) q
