-- One item more at the end of its task's list.
use Rattle.std.proofs.Common.{◌≡◌, ◌+◌, ℕ, zero, suc, refl, Option, Some, None, List, [], ◌∷◌, ◌++◌, map, set, ap, subst, sym, ◌∙◌, append_assoc, arith}
use Rattle.std.specs.Prelude.{Box, T, Vec, slice_get}
use Rattle.std.specs.FinMap.Entries.{below_all, is_sorted}
use Rattle.std.specs.Ordering.{is_lt}
use Rattle.std.specs.Vec.{with_item}
use Rattle.std.specs.declared.alloc.Global.{Global}
use Rattle.yw_sites.specs.Idents.{AreChildren, Distinct, Each, IsChild}
use Rattle.yw_sites.proofs.Each.{Each-append, Each-back, Each-front}
use Rattle.yw_sites.proofs.Picked.{halves, joined}
use Rattle.yw_state.specs.Identity.{Ident}
use Rattle.yw_state.specs.Map.{lexical}
use Rattle.yw_state.proofs.Tests.{nowhere, some_same}
use Rattle.yw_tree.specs.Boxed.{AreRows, AtNet, AtNode, AtRun, Held, IsBoxedNet, IsBoxedNode, IsBoxedRun, head, heads, ids, net_ids, run_ids}
use Rattle.yw_tree.specs.Entries.{nodes, row_nodes}
use Rattle.yw_tree.specs.Shows.{AddsItem, IsLast, KeepsOthers, items_in, row_or_none}
use Rattle.yw_tree.specs.declared.NetState.{NetState, NetState-F, out-NetState, roll-NetState, out-roll-NetState, every_here-NetState}
use Rattle.yw_tree.specs.declared.Node.{Node, out-Node, roll-out-Node}
use Rattle.yw_tree.specs.declared.Run.{Run}
use Rattle.yw_tree.proofs.Cleared.{split_row}
use Rattle.yw_tree.proofs.Gain.{gained}
use Rattle.yw_tree.proofs.Induct.{below_every_net}
use Rattle.yw_tree.proofs.Keys.{ids_are, kids, kids-append}
use Rattle.yw_tree.proofs.Law.{part_is}
use Rattle.yw_tree.proofs.Made.{made_net, made_node}
use Rattle.yw_tree.proofs.OneList.{keeps_others, this_list}

-- an item alone is well boxed
pub alone_boxed : (n : Node) → (out-Node n).net ≡ None → (out-Node n).run ≡ None → IsBoxedNode n
alone_boxed n no_net no_run =
    let l = out-Node n in
    let nothing : AreChildren l.id [] = (tt, tt) in
    subst IsBoxedNode (roll-out-Node n)
    (made_node AtNet AtNode AtRun l
    (subst (λ z. AreChildren l.id (net_ids z ++ run_ids l.run)) (sym no_net) (subst (λ z. AreChildren l.id (run_ids z)) (sym no_run) nothing))
    (none_held l.net no_net) (none_hung l.run no_run))
  where
    none_held : (o : Option (Box NetState Global)) → o ≡ None → Held IsBoxedNet o
    none_held None e = tt
    none_held (Some b) e = nowhere (sym e)

    none_hung : (o : Option (Box Run Global)) → o ≡ None → Held IsBoxedRun o
    none_hung None e = tt
    none_hung (Some b) e = nowhere (sym e)

-- ---- one identity more
distinct_more : (j : Ident) (xs ys : List Ident) → Distinct (xs ++ ys) → Each (λ k. j ≡ k → ⊥) (xs ++ ys) → Distinct (xs ++ (j ∷ ys))
distinct_more j [] ys d n = (n, d)
distinct_more j (x ∷ xs) ys d n = (
  Each-append (λ k. x ≡ k → ⊥) xs (j ∷ ys) (Each-front (λ k. x ≡ k → ⊥) xs ys d.0) ((λ e. n.0 (sym e)), Each-back (λ k. x ≡ k → ⊥) xs ys d.0),
  distinct_more j xs ys d.1 n.1,
)

pub children_more : (i j : Ident) (xs ys : List Ident) → AreChildren i (xs ++ ys) → IsChild i j → Each (λ k. j ≡ k → ⊥) (xs ++ ys) → AreChildren i (xs ++ (j ∷ ys))
children_more i j xs ys c cj n = (Each-append (IsChild i) xs (j ∷ ys) (Each-front (IsChild i) xs ys c.0) (cj, Each-back (IsChild i) xs ys c.0), distinct_more j xs ys c.1 n)

-- ---- the order of a list with one more at its end
below_last : (k : Ident) (hs : List (Ident × ℕ)) (h : Ident × ℕ) → T (below_all lexical k hs) → T (is_lt (lexical k h.0)) → T (below_all lexical k (hs ++ (h ∷ [])))
below_last k [] h b l = joined _ _ l tt
below_last k (x ∷ hs) h b l = let p = halves _ _ b in joined _ _ p.0 (below_last k hs h p.1 l)

sorted_last : (ns : List Node) (h : Ident × ℕ) → T (is_sorted lexical (map head ns)) → Each (λ n. T (is_lt (lexical (out-Node n).id h.0))) ns → T (is_sorted lexical (map head ns ++ (h ∷ [])))
sorted_last [] h s l = tt
sorted_last (n ∷ ns) h s l = let p = halves _ _ s in joined _ _ (below_last (out-Node n).id (map head ns) h p.0 l.0) (sorted_last ns h p.1 l.1)

map_last : (ns : List Node) (n : Node) → map head (ns ++ (n ∷ [])) ≡ map head ns ++ (head n ∷ [])
map_last [] n = refl
map_last (x ∷ ns) n = ap (λ z. head x ∷ z) (map_last ns n)

rows_added : (k : ℕ) (vs : List (Vec Node Global)) (t : ℕ) (v u : Vec Node Global) (n : Node) → slice_get vs t ≡ Some v → u.items ≡ v.items ++ (n ∷ []) → (out-Node n).task ≡ k + t
    → Each (λ x. T (is_lt (lexical (out-Node x).id (out-Node n).id))) v.items → AreRows k (heads vs) → AreRows k (heads (set vs t u))
rows_added k [] t v u n e is task l h = nowhere e
rows_added k (x ∷ vs) zero v u n e is task l h =
    let s : x ≡ v = some_same x v e in
    let these : map head u.items ≡ map head x.items ++ (head n ∷ []) = ap (map head) is ∙ map_last v.items n ∙ ap (λ (z : Vec Node Global). map head z.items ++ (head n ∷ [])) (sym s) in
    let here : (out-Node n).task ≡ k = omega arith in
    subst (λ (z : List (Ident × ℕ)). Each (λ (h : Ident × ℕ). h.1 ≡ k) z × T (is_sorted lexical z) × AreRows (k + 1) (heads vs)) (sym these) (
      Each-append (λ (h : Ident × ℕ). h.1 ≡ k) (map head x.items) (head n ∷ []) h.0 (here, tt),
      sorted_last x.items (head n) h.1 (subst (λ (z : Vec Node Global). Each (λ y. T (is_lt (lexical (out-Node y).id (out-Node n).id))) z.items) (sym s) l),
      h.2,
    )
rows_added k (x ∷ vs) (suc t) v u n e is task l h = (h.0, h.1, rows_added (k + 1) vs t v u n e is (omega arith) l h.2)

module _ (old : NetState) (t : ℕ) (v u : Vec Node Global) (n : Node) (at : slice_get (out-NetState old).items.items t ≡ Some v) (is : u.items ≡ v.items ++ (n ∷ [])) (b : IsBoxedNet old)
    (no_net : (out-Node n).net ≡ None) (no_run : (out-Node n).run ≡ None) (task : (out-Node n).task ≡ t) (last : IsLast old n) where
  abbrev opened : NetState-F NetState Node Run
  opened = record (out-NetState old) { items = with_item (out-NetState old).items t u }

  abbrev pub added : NetState
  added = roll-NetState (record (out-NetState old) { items = with_item (out-NetState old).items t u })

  abbrev before : List Node
  before = (split_row (out-NetState old).items.items t v at).front ++ v.items

  abbrev behind : List Node
  behind = (split_row (out-NetState old).items.items t v at).back

  was : nodes old ≡ before ++ behind
  was = let r = split_row (out-NetState old).items.items t v at in r.whole ∙ sym (append_assoc r.front v.items r.back)

  rows_now : row_nodes (set (out-NetState old).items.items t u) ≡ before ++ (n ∷ behind)
  rows_now =
      let r = split_row (out-NetState old).items.items t v at in
      let one : List Node = n ∷ [] in
      r.put u ∙ ap (λ z. r.front ++ (z ++ r.back)) is ∙ ap (λ z. r.front ++ z) (append_assoc v.items one r.back) ∙ sym (append_assoc r.front v.items (n ∷ r.back))

  now : nodes added ≡ before ++ (n ∷ behind)
  now = ap (λ (l : NetState-F NetState Node Run). row_nodes l.items.items) (out-roll-NetState opened) ∙ rows_now

  lasts : Each (λ x. T (is_lt (lexical (out-Node x).id (out-Node n).id))) v.items
  lasts = subst (λ o. Each (λ x. T (is_lt (lexical (out-Node x).id (out-Node n).id))) (row_or_none o)) (ap (slice_get (out-NetState old).items.items) task ∙ at) last

  added_boxed : IsBoxedNet added
  added_boxed =
      let each = subst (Each IsBoxedNode) was (below_every_net AtNet AtNode AtRun old b) in
      made_net AtNet AtNode AtRun opened (rows_added 0 (out-NetState old).items.items t v u n at is (omega arith) lasts (every_here-NetState AtNet AtNode AtRun old b))
      (subst (Each IsBoxedNode) (sym rows_now) (Each-append IsBoxedNode before (n ∷ behind) (Each-front IsBoxedNode before behind each) (alone_boxed n no_net no_run, Each-back IsBoxedNode before behind each)))

  added_children : (i : Ident) (js : List Ident) → AreChildren i (ids old ++ js) → IsChild i (out-Node n).id → Each (λ k. (out-Node n).id ≡ k → ⊥) (ids old ++ js) → AreChildren i (ids added ++ js)
  added_children i js c cn ne =
      let first : ids old ++ js ≡ kids before ++ (kids behind ++ js) = ap (λ z. z ++ js) (ids_are old ∙ ap kids was ∙ kids-append before behind) ∙ append_assoc (kids before) (kids behind) js in
      let second : ids added ++ js ≡ kids before ++ ((out-Node n).id ∷ (kids behind ++ js)) =
      ap (λ z. z ++ js) (ids_are added ∙ ap kids now ∙ kids-append before (n ∷ behind)) ∙ append_assoc (kids before) ((out-Node n).id ∷ kids behind) js in
      subst (AreChildren i) (sym second) (children_more i (out-Node n).id (kids before) (kids behind ++ js) (subst (AreChildren i) first c) cn (subst (Each (λ k. (out-Node n).id ≡ k → ⊥)) first ne))

  pub item_added : AddsItem old added n
  item_added = record {
    keeps = subst (KeepsOthers old added) (sym task) (keeps_others old t u);
    last = ap (items_in added) task ∙ this_list old t v u at ∙ is ∙ ap (λ z. z ++ (n ∷ [])) (sym (ap (items_in old) task ∙ ap row_or_none at));
    boxed = added_boxed;
    children = added_children;
    shows = λ names m i beside within fresh shows. gained names m i beside old added before behind n was now (part_is names opened) no_net no_run within fresh shows;
  }
