-- One item of a net among the others.
use Rattle.std.proofs.Common.{List, None, Option, Some, [], ap, append_assoc, cond, false, map, refl, set, subst, suc, sym, true, zero, ℕ, ◌++◌, ◌∙◌, ◌∷◌, ◌≡◌}
use Rattle.std.specs.Prelude.{Bool, Vec, slice_get}
use Rattle.std.specs.Vec.{with_item}
use Rattle.std.specs.declared.alloc.Global.{Global}
use Rattle.yw_state.proofs.Tests.{by_test, nowhere, some_same}
use Rattle.yw_state.specs.Identity.{Ident}
use Rattle.yw_tree.specs.Boxed.{head, heads}
use Rattle.yw_tree.specs.Entries.{nodes, row_nodes}
use Rattle.yw_tree.specs.Ways.{item_in_row, leads, next_list, node_at, or_later, if_leads, last_place, place_among, place_in, place_of, with_node, with_row}
use Rattle.yw_tree.specs.declared.NetState.{NetState, NetState-F, out-NetState, out-roll-NetState, roll-NetState}
use Rattle.yw_tree.specs.declared.Node.{Node}
use Rattle.yw_tree.specs.declared.Run.{Run}

-- n stands in ns, and ns' are these with w in its place
pub record InList (ns : List Node) (k : ℕ) (n : Node) : Type 0 where
  pub front : List Node
  pub back : List Node
  pub whole : ns ≡ front ++ (n ∷ back)
  pub put : (w : Node) → set ns k w ≡ front ++ (w ∷ back)
  pub heads : (w : Node) → head w ≡ head n → map head (set ns k w) ≡ map head ns

pub in_list : (ns : List Node) (k : ℕ) (n : Node) → slice_get ns k ≡ Some n → InList ns k n
in_list [] k n e = nowhere e
in_list (x ∷ ns) zero n e =
    let s : x ≡ n = some_same x n e in
    record { front = []; back = ns; whole = ap (λ z. z ∷ ns) s; put = λ w. refl; heads = λ w h. ap (λ z. z ∷ map head ns) (h ∙ ap head (sym s)) }
in_list (x ∷ ns) (suc k) n e =
    let r = in_list ns k n e in
    record { front = x ∷ r.front; back = r.back; whole = ap (λ z. x ∷ z) r.whole; put = λ w. ap (λ z. x ∷ z) (r.put w); heads = λ w h. ap (λ z. head x ∷ z) (r.heads w h) }

-- the same in a table of lists
pub record InRows (vs : List (Vec Node Global)) (t k : ℕ) (n : Node) : Type 0 where
  pub row : Vec Node Global
  pub is_row : slice_get vs t ≡ Some row
  pub at : slice_get row.items k ≡ Some n
  pub front : List Node
  pub back : List Node
  pub whole : row_nodes vs ≡ front ++ (n ∷ back)
  pub put : (w : Node) → row_nodes (set vs t (with_item row k w)) ≡ front ++ (w ∷ back)
  pub same_heads : (w : Node) → head w ≡ head n → heads (set vs t (with_item row k w)) ≡ heads vs

pub in_rows : (vs : List (Vec Node Global)) (t : ℕ) (ns : Vec Node Global) (k : ℕ) (n : Node) → slice_get vs t ≡ Some ns → slice_get ns.items k ≡ Some n → InRows vs t k n
in_rows [] t ns k n e f = nowhere e
in_rows (v ∷ vs) zero ns k n e f =
    let s : v ≡ ns = some_same v ns e in
    let r = in_list ns.items k n f in
    record {
      row = ns;
      is_row = e;
      at = f;
      front = r.front;
      back = r.back ++ row_nodes vs;
      whole = ap (λ (z : Vec Node Global). z.items ++ row_nodes vs) s ∙ ap (λ z. z ++ row_nodes vs) r.whole ∙ append_assoc r.front (n ∷ r.back) (row_nodes vs);
      put = λ w. ap (λ z. z ++ row_nodes vs) (r.put w) ∙ append_assoc r.front (w ∷ r.back) (row_nodes vs);
      same_heads = λ w h. ap (λ z. z ∷ heads vs) (r.heads w h ∙ ap (λ (z : Vec Node Global). map head z.items) (sym s));
    }
in_rows (v ∷ vs) (suc t) ns k n e f =
    let r = in_rows vs t ns k n e f in
    record {
      row = r.row;
      is_row = r.is_row;
      at = r.at;
      front = v.items ++ r.front;
      back = r.back;
      whole = ap (λ z. v.items ++ z) r.whole ∙ sym (append_assoc v.items r.front (n ∷ r.back));
      put = λ w. ap (λ z. v.items ++ z) (r.put w) ∙ sym (append_assoc v.items r.front (w ∷ r.back));
      same_heads = λ w h. ap (λ z. map head v.items ∷ z) (r.same_heads w h);
    }

of_row : (vs : List (Vec Node Global)) (t k : ℕ) (n : Node) (o : Option (Vec Node Global)) → slice_get vs t ≡ o → item_in_row o k ≡ Some n → InRows vs t k n
of_row vs t k n None e f = nowhere f
of_row vs t k n (Some ns) e f = in_rows vs t ns k n e f

pub in_net : (s : NetState) (t k : ℕ) (n : Node) → node_at s t k ≡ Some n → InRows (out-NetState s).items.items t k n
in_net s t k n e = of_row (out-NetState s).items.items t k n _ refl e

-- ---- the net with w in its place, one level open
abbrev pub opened : NetState → ℕ → ℕ → Node → Vec Node Global → NetState-F NetState Node Run
opened s t k w row = record (out-NetState s) { items = with_item (out-NetState s).items t (with_item row k w) }

pub with_node_is : (s : NetState) (t k : ℕ) (n w : Node) (r : InRows (out-NetState s).items.items t k n) → with_node s t k w ≡ roll-NetState (opened s t k w r.row)
with_node_is s t k n w r = ap (λ (o : Option (Vec Node Global)). roll-NetState (record (out-NetState s) { items = with_row (out-NetState s).items t k w o })) r.is_row

pub out_with_node : (s : NetState) (t k : ℕ) (n w : Node) (r : InRows (out-NetState s).items.items t k n) → out-NetState (with_node s t k w) ≡ opened s t k w r.row
out_with_node s t k n w r = ap out-NetState (with_node_is s t k n w r) ∙ out-roll-NetState (opened s t k w r.row)

pub nodes_put : (s : NetState) (t k : ℕ) (n w : Node) (r : InRows (out-NetState s).items.items t k n) → nodes (with_node s t k w) ≡ r.front ++ (w ∷ r.back)
nodes_put s t k n w r = ap (λ (l : NetState-F NetState Node Run). row_nodes l.items.items) (out_with_node s t k n w r) ∙ r.put w

-- ---- the item at the place that leads to an identity does so
the_place : (id : Ident) (j k : ℕ) (o : Option Node) → if_leads id j o ≡ Some k → (n : Node) × (o ≡ Some n) × (leads id n ≡ true) × (j ≡ k)
the_place id j k None e = nowhere e
the_place id j k (Some n) e =
    by_test (leads id n)
    (λ (t : leads id n ≡ true). (n, refl, t, some_same j k (ap (λ (b : Bool). cond b (Some j) None) (sym t) ∙ e)))
    (λ (t : leads id n ≡ false). nowhere (ap (λ (b : Bool). cond b (Some j) None) (sym t) ∙ e))

pub in_list_leads : (id : Ident) (ns : List Node) (k : ℕ) (n : Node) → place_in id ns ≡ Some k → slice_get ns k ≡ Some n → leads id n ≡ true
in_list_leads id ns k n e f =
    let r = the_place id (last_place id ns) k (slice_get ns (last_place id ns)) e in
    ap (leads id) (some_same n r.0 (sym f ∙ ap (slice_get ns) (sym r.3) ∙ r.1)) ∙ r.2

pub either_place : {G : Type 0} (o : Option ℕ) (rest : Option (ℕ × ℕ)) (p : ℕ × ℕ) → or_later o rest ≡ Some p
    → ((i : ℕ) → o ≡ Some i → (0, i) ≡ p → G) → ((q : ℕ × ℕ) → o ≡ None → rest ≡ Some q → next_list q ≡ p → G) → G
either_place None None p e here later = nowhere e
either_place None (Some q) p e here later = later q refl refl (some_same (next_list q) p e)
either_place (Some i) rest p e here later = here i refl (some_same (0, i) p e)

in_rows_leads : (id : Ident) (vs : List (Vec Node Global)) (p : ℕ × ℕ) (n : Node) → place_among id vs ≡ Some p → item_in_row (slice_get vs p.0) p.1 ≡ Some n → leads id n ≡ true
in_rows_leads id [] p n e f = nowhere e
in_rows_leads id (v ∷ vs) p n e f =
    either_place (place_in id v.items) (place_among id vs) p e
    (λ i o s. in_list_leads id v.items i n o (subst (λ (q : ℕ × ℕ). item_in_row (slice_get (v ∷ vs) q.0) q.1 ≡ Some n) (sym s) f))
    (λ q o r s. in_rows_leads id vs q n r (subst (λ (q : ℕ × ℕ). item_in_row (slice_get (v ∷ vs) q.0) q.1 ≡ Some n) (sym s) f))

pub place_leads : (id : Ident) (s : NetState) (p : ℕ × ℕ) (n : Node) → place_of id s ≡ Some p → node_at s p.0 p.1 ≡ Some n → leads id n ≡ true
place_leads id s p n e f = in_rows_leads id (out-NetState s).items.items p n e f

-- ---- an item stands at that place
pub list_there : (id : Ident) (ns : List Node) (k : ℕ) → place_in id ns ≡ Some k → (n : Node) × (slice_get ns k ≡ Some n)
list_there id ns k e =
    let r = the_place id (last_place id ns) k (slice_get ns (last_place id ns)) e in
    (r.0, ap (slice_get ns) (sym r.3) ∙ r.1)

rows_there : (id : Ident) (vs : List (Vec Node Global)) (p : ℕ × ℕ) → place_among id vs ≡ Some p → (n : Node) × (item_in_row (slice_get vs p.0) p.1 ≡ Some n)
rows_there id [] p e = nowhere e
rows_there id (v ∷ vs) p e =
    either_place (place_in id v.items) (place_among id vs) p e
    (λ i o s. subst (λ (q : ℕ × ℕ). (n : Node) × (item_in_row (slice_get (v ∷ vs) q.0) q.1 ≡ Some n)) s (list_there id v.items i o))
    (λ q o r s. subst (λ (q : ℕ × ℕ). (n : Node) × (item_in_row (slice_get (v ∷ vs) q.0) q.1 ≡ Some n)) s (rows_there id vs q r))

pub place_there : (id : Ident) (s : NetState) (p : ℕ × ℕ) → place_of id s ≡ Some p → (n : Node) × (node_at s p.0 p.1 ≡ Some n)
place_there id s p e = rows_there id (out-NetState s).items.items p e
