-- A task's list is emptied.
use Rattle.std.proofs.Common.{List, Some, [], ap, append_assoc, arith, length, map, refl, set, subst, suc, sym, zero, ℕ, ◌++◌, ◌+◌, ◌<◌, ◌∙◌, ◌∷◌, ◌≡◌}
use Rattle.std.specs.FinMap.Entries.{is_sorted}
use Rattle.std.specs.Prelude.{T, Vec, slice_get, slice_index_or}
use Rattle.std.specs.Vec.{with_item}
use Rattle.std.specs.declared.alloc.Global.{Global}
use Rattle.yw_sites.proofs.Children.{children_ends}
use Rattle.yw_sites.proofs.Each.{each_ends}
use Rattle.yw_sites.specs.Entries.{Entries}
use Rattle.yw_sites.specs.Idents.{AreChildren, Each}
use Rattle.yw_state.proofs.Tests.{nowhere, some_same}
use Rattle.yw_state.specs.Identity.{Ident}
use Rattle.yw_state.specs.Map.{lexical}
use Rattle.yw_state.specs.State.{State, drop_all, items_of}
use Rattle.yw_tree.proofs.Induct.{below_every_net}
use Rattle.yw_tree.proofs.Keys.{ids_are, kids, kids-append}
use Rattle.yw_tree.proofs.Law.{part_is}
use Rattle.yw_tree.proofs.Lose.{lost}
use Rattle.yw_tree.proofs.Made.{made_net}
use Rattle.yw_tree.proofs.Rows.{items_are, row_at, row_parts}
use Rattle.yw_tree.specs.Boxed.{AreRows, AtNet, AtNode, AtRun, IsBoxedNet, IsBoxedNode, IsNetAt, head, heads, ids}
use Rattle.yw_tree.specs.Entries.{nodes, row_nodes}
use Rattle.yw_tree.specs.Shows.{ShowsNet, StandsBeside}
use Rattle.yw_tree.specs.declared.NetState.{NetState, NetState-F, every_here-NetState, out-NetState, out-roll-NetState, roll-NetState}
use Rattle.yw_tree.specs.declared.Node.{Node, out-Node}
use Rattle.yw_tree.specs.declared.Run.{Run}

-- one list among the others
pub record RowAt (vs : List (Vec Node Global)) (t : ℕ) (v : Vec Node Global) : Type 0 where
  pub front : List Node
  pub back : List Node
  pub whole : row_nodes vs ≡ front ++ (v.items ++ back)
  pub put : (u : Vec Node Global) → row_nodes (set vs t u) ≡ front ++ (u.items ++ back)

pub split_row : (vs : List (Vec Node Global)) (t : ℕ) (v : Vec Node Global) → slice_get vs t ≡ Some v → RowAt vs t v
split_row [] t v e = nowhere e
split_row (x ∷ vs) zero v e = record { front = []; back = row_nodes vs; whole = ap (λ (z : Vec Node Global). z.items ++ row_nodes vs) (some_same x v e); put = λ u. refl }
split_row (x ∷ vs) (suc t) v e =
    let r = split_row vs t v e in
    record {
      front = x.items ++ r.front;
      back = r.back;
      whole = ap (λ z. x.items ++ z) r.whole ∙ sym (append_assoc x.items r.front (v.items ++ r.back));
      put = λ u. ap (λ z. x.items ++ z) (r.put u) ∙ sym (append_assoc x.items r.front (u.items ++ r.back));
    }

rows_cleared : (n : ℕ) (vs : List (Vec Node Global)) (t : ℕ) (u : Vec Node Global) → AreRows n (heads vs) → u.items ≡ [] → AreRows n (heads (set vs t u))
rows_cleared n [] t u h e = tt
rows_cleared n (x ∷ vs) zero u h e = subst (λ (z : List Node). Each (λ (h : Ident × ℕ). h.1 ≡ n) (map head z) × T (is_sorted lexical (map head z)) × AreRows (n + 1) (heads vs)) (sym e) (tt, tt, h.2)
rows_cleared n (x ∷ vs) (suc t) u h e = (h.0, h.1, rows_cleared (n + 1) vs t u h.2 e)

idents_are : (ns : List Node) → map (λ e. e.0) (row_parts ns) ≡ kids ns
idents_are [] = refl
idents_are (n ∷ ns) = ap (λ z. (out-Node n).id ∷ z) (idents_are ns)

pub read_row : (vs : List (Vec Node Global)) (t : ℕ) (v : Vec Node Global) → t < length vs → v ≡ slice_index_or vs t v → slice_get vs t ≡ Some v
read_row [] t v h e = absurd (omega arith)
read_row (x ∷ vs) zero v h e = ap (λ z. Some z) (sym e)
read_row (x ∷ vs) (suc t) v h e = read_row vs t v (omega arith) e

module _ (old : NetState) (t : ℕ) (v u : Vec Node Global) (at : slice_get (out-NetState old).items.items t ≡ Some v) (empty : u.items ≡ []) (b : IsBoxedNet old) where
  abbrev pub opened : NetState-F NetState Node Run
  opened = record (out-NetState old) { items = with_item (out-NetState old).items t u }

  abbrev pub cleared : NetState
  cleared = roll-NetState (record (out-NetState old) { items = with_item (out-NetState old).items t u })

  row : RowAt (out-NetState old).items.items t v
  row = split_row (out-NetState old).items.items t v at

  now_rows : row_nodes (set (out-NetState old).items.items t u) ≡ (split_row (out-NetState old).items.items t v at).front ++ (split_row (out-NetState old).items.items t v at).back
  now_rows = let r = split_row (out-NetState old).items.items t v at in r.put u ∙ ap (λ z. r.front ++ (z ++ r.back)) empty

  now : nodes cleared ≡ (split_row (out-NetState old).items.items t v at).front ++ (split_row (out-NetState old).items.items t v at).back
  now = ap (λ (l : NetState-F NetState Node Run). row_nodes l.items.items) (out-roll-NetState opened) ∙ now_rows

  pub cleared_boxed : IsBoxedNet cleared
  cleared_boxed =
      let r = split_row (out-NetState old).items.items t v at in
      made_net AtNet AtNode AtRun opened (rows_cleared 0 (out-NetState old).items.items t u (every_here-NetState AtNet AtNode AtRun old b) empty)
      (subst (Each IsBoxedNode) (sym now_rows) (each_ends IsBoxedNode r.front v.items r.back (subst (Each IsBoxedNode) r.whole (below_every_net AtNet AtNode AtRun old b))))

  pub cleared_children : (i : Ident) (js : List Ident) → AreChildren i (ids old ++ js) → AreChildren i (ids cleared ++ js)
  cleared_children i js c =
      let r = split_row (out-NetState old).items.items t v at in
      let was : ids old ++ js ≡ kids r.front ++ (kids v.items ++ (kids r.back ++ js)) =
      ap (λ z. z ++ js) (ids_are old ∙ ap kids r.whole ∙ kids-append r.front (v.items ++ r.back) ∙ ap (λ z. kids r.front ++ z) (kids-append v.items r.back))
      ∙ append_assoc (kids r.front) (kids v.items ++ kids r.back) js ∙ ap (λ z. kids r.front ++ z) (append_assoc (kids v.items) (kids r.back) js) in
      let is : ids cleared ++ js ≡ kids r.front ++ (kids r.back ++ js) = ap (λ z. z ++ js) (ids_are cleared ∙ ap kids now ∙ kids-append r.front r.back) ∙ append_assoc (kids r.front) (kids r.back) js in
      subst (AreChildren i) (sym is) (children_ends i (kids r.front) (kids v.items) (kids r.back ++ js) (subst (AreChildren i) was c))

  pub cleared_shows : (names : ℕ → List ℕ) (s : State) (i : Ident) (beside : Entries) → IsNetAt i old → StandsBeside i (ids old) beside → ShowsNet names s.sites i beside old
      → ShowsNet names (drop_all s.sites (map (λ e. e.0) (items_of s i t))) i beside cleared
  cleared_shows names s i beside net_at stands shows =
      let r = split_row (out-NetState old).items.items t v at in
      let idents : map (λ e. e.0) (items_of s i t) ≡ kids v.items = ap (λ es. map (λ e. e.0) es) (items_are names s i beside old b net_at stands.quiet shows t ∙ ap (λ o. row_parts (row_at o)) at) ∙ idents_are v.items in
      subst (λ js. ShowsNet names (drop_all s.sites js) i beside cleared) (sym idents)
      (lost names s.sites i beside old cleared r.front v.items r.back r.whole now (part_is names opened) (below_every_net AtNet AtNode AtRun old b) net_at stands shows)
