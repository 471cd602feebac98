-- The items of a task, as the definitions list them, are those of its list.
use Rattle.std.proofs.Common.{Bool, List, None, Option, Some, [], ap, arith, cond, false, map, refl, subst, suc, sym, true, zero, ℕ, ◌++◌, ◌+◌, ◌∙◌, ◌∷◌, ◌≡◌, ◌≤◌}
use Rattle.std.proofs.lemmas.Bool.{eq-eqb, eqb-true, false_from_ne_true}
use Rattle.std.specs.FinMap.Entries.{below_all, find, is_sorted, same_entries}
use Rattle.std.specs.Ordering.{eq_by_cmp}
use Rattle.std.specs.Prelude.{T, Vec, if◌then◌else◌, option_and_then, option_map, slice_get, ◌==◌}
use Rattle.std.specs.declared.alloc.Global.{Global}
use Rattle.yw_base.specs.Identity.{under}
use Rattle.yw_sites.proofs.Children.{distinct_back}
use Rattle.yw_sites.proofs.Each.{Each-append, Each-back, Each-front}
use Rattle.yw_sites.proofs.Picked.{find_picked, halves, joined, pick, picked, same_filter, sorted_picked}
use Rattle.yw_sites.proofs.Prefix.{child_length, child_of, child_strictly, is_child_of, not_true, under_refl, under_same}
use Rattle.yw_sites.proofs.Swaps.{at, at_skip, at_under}
use Rattle.yw_sites.specs.Entries.{Entries}
use Rattle.yw_sites.specs.Idents.{AreChildren, Distinct, Each, IsChild}
use Rattle.yw_state.proofs.MapLemmas.{by_name, tied, tied_self}
use Rattle.yw_state.proofs.Tests.{by_option, by_test, never, nowhere, some_same}
use Rattle.yw_state.specs.Identity.{Ident, is_child}
use Rattle.yw_state.specs.Map.{entries, get, lexical}
use Rattle.yw_state.specs.State.{ItemPart, Site, State, item_of_task, items_of}
use Rattle.yw_tree.proofs.Equations.{net_entries_is, node_entries_is}
use Rattle.yw_tree.proofs.Induct.{below_every_net}
use Rattle.yw_tree.proofs.Keys.{ids_are, kids, kids-append, node_keys}
use Rattle.yw_tree.specs.Boxed.{AreRows, AtNet, AtNode, AtRun, IsBoxedNet, IsBoxedNode, IsNetAt, head, heads}
use Rattle.yw_tree.specs.Entries.{below_net, below_run, flat, item_part_of, item_site, net_entries, node_entries, nodes, row_nodes}
use Rattle.yw_tree.specs.Shows.{ShowsNet}
use Rattle.yw_tree.specs.declared.NetState.{NetState, every_here-NetState, out-NetState}
use Rattle.yw_tree.specs.declared.Node.{Node, out-Node}

-- the item of a list at an identity
abbrev node_find : Ident → List Node → Option Node
node_find q [] = None
node_find q (n ∷ ns) = cond (eq_by_cmp lexical q (out-Node n).id) (Some n) (node_find q ns)

module _ (q : Ident) where
  find_skip : (xs ys : List Node) → node_find q xs ≡ None → node_find q (xs ++ ys) ≡ node_find q ys
  find_skip [] ys e = refl
  find_skip (x ∷ xs) ys e =
      by_test (eq_by_cmp lexical q (out-Node x).id)
      (λ (t : eq_by_cmp lexical q (out-Node x).id ≡ true). nowhere (sym (ap (λ b. cond b (Some x) (node_find q xs)) (sym t) ∙ e)))
      (λ (t : eq_by_cmp lexical q (out-Node x).id ≡ false). ap (λ b. cond b (Some x) (node_find q (xs ++ ys))) t ∙ find_skip xs ys (ap (λ b. cond b (Some x) (node_find q xs)) (sym t) ∙ e))

  find_hit : (xs ys : List Node) (n : Node) → node_find q xs ≡ Some n → node_find q (xs ++ ys) ≡ Some n
  find_hit [] ys n e = nowhere e
  find_hit (x ∷ xs) ys n e =
      by_test (eq_by_cmp lexical q (out-Node x).id)
      (λ (t : eq_by_cmp lexical q (out-Node x).id ≡ true). ap (λ b. cond b (Some x) (node_find q (xs ++ ys))) t ∙ ap (λ b. cond b (Some x) (node_find q xs)) (sym t) ∙ e)
      (λ (t : eq_by_cmp lexical q (out-Node x).id ≡ false). ap (λ b. cond b (Some x) (node_find q (xs ++ ys))) t ∙ find_hit xs ys n (ap (λ b. cond b (Some x) (node_find q xs)) (sym t) ∙ e))

  -- what holds of each item and of it
  of_found : (Q : Node → Type 0) (xs : List Node) (n : Node) → Each Q xs → node_find q xs ≡ Some n → Q n
  of_found Q [] n p e = nowhere e
  of_found Q (x ∷ xs) n p e =
      by_test (eq_by_cmp lexical q (out-Node x).id)
      (λ (t : eq_by_cmp lexical q (out-Node x).id ≡ true). subst Q (some_same x n (ap (λ b. cond b (Some x) (node_find q xs)) (sym t) ∙ e)) p.0)
      (λ (t : eq_by_cmp lexical q (out-Node x).id ≡ false). of_found Q xs n p.1 (ap (λ b. cond b (Some x) (node_find q xs)) (sym t) ∙ e))

  -- an identity in the first list is none of the second
  not_again : (xs ys : List Node) (n : Node) → Distinct (kids xs ++ kids ys) → node_find q xs ≡ Some n → node_find q ys ≡ None
  not_again [] ys n d e = nowhere e
  not_again (x ∷ xs) ys n d e =
      by_test (eq_by_cmp lexical q (out-Node x).id)
      (λ (t : eq_by_cmp lexical q (out-Node x).id ≡ true). others ys (Each-back (λ k. (out-Node x).id ≡ k → ⊥) (kids xs) (kids ys) d.0) (tied by_name q (out-Node x).id t))
      (λ (t : eq_by_cmp lexical q (out-Node x).id ≡ false). not_again xs ys n d.1 (ap (λ b. cond b (Some x) (node_find q xs)) (sym t) ∙ e))
    where
      others : (ys : List Node) → Each (λ k. (out-Node x).id ≡ k → ⊥) (kids ys) → q ≡ (out-Node x).id → node_find q ys ≡ None
      others [] h s = refl
      others (y ∷ ys) h s =
          by_test (eq_by_cmp lexical q (out-Node y).id)
          (λ (t : eq_by_cmp lexical q (out-Node y).id ≡ true). absurd (h.0 (sym s ∙ tied by_name q (out-Node y).id t)))
          (λ (t : eq_by_cmp lexical q (out-Node y).id ≡ false). ap (λ b. cond b (Some y) (node_find q ys)) t ∙ others ys h.1 s)

-- ---- tasks

each_heads : (t : ℕ) (xs : List Node) → Each (λ (h : Ident × ℕ). h.1 ≡ t) (map head xs) → Each (λ n. (out-Node n).task ≡ t) xs
each_heads t [] h = tt
each_heads t (x ∷ xs) h = (h.0, each_heads t xs h.1)

at_least : (t u : ℕ) → t ≤ u → (xs : List Node) → Each (λ n. (out-Node n).task ≡ u) xs → Each (λ n. t ≤ (out-Node n).task) xs
at_least t u l [] h = tt
at_least t u l (x ∷ xs) h = (let e = h.0 in subst (λ z. t ≤ z) (sym e) l, at_least t u l xs h.1)

later_tasks : (t u : ℕ) → t ≤ u → (vs : List (Vec Node Global)) → AreRows u (heads vs) → Each (λ n. t ≤ (out-Node n).task) (row_nodes vs)
later_tasks t u l [] h = tt
later_tasks t u l (v ∷ vs) h = Each-append (λ n. t ≤ (out-Node n).task) v.items (row_nodes vs) (at_least t u l v.items (each_heads u v.items h.0)) (later_tasks t (u + 1) (omega arith) vs h.2)

-- the list of a task
abbrev pub row_at : Option (Vec Node Global) → List Node
row_at None = []
row_at (Some v) = v.items

abbrev part_if : ℕ → Node → Option ItemPart
part_if k n = if (out-Node n).task == k then Some (item_part_of n) else None

part_yes : (k : ℕ) (n : Node) → (out-Node n).task ≡ k → part_if k n ≡ Some (item_part_of n)
part_yes k n e = ap (λ b. cond b (Some (item_part_of n)) None) (eq-eqb (out-Node n).task k e)

part_no : (k : ℕ) (n : Node) → ((out-Node n).task ≡ k → ⊥) → part_if k n ≡ None
part_no k n ne = ap (λ b. cond b (Some (item_part_of n)) None) (false_from_ne_true _ (λ t. ne (eqb-true (out-Node n).task k t)))

-- of all items the one at q, if it is of task t + k, is the one in that task's list
in_row : (q : Ident) (t k : ℕ) (vs : List (Vec Node Global)) → AreRows t (heads vs) → Distinct (kids (row_nodes vs))
    → option_and_then (part_if (t + k)) (node_find q (row_nodes vs)) ≡ option_map item_part_of (node_find q (row_at (slice_get vs k)))
in_row q t k [] h d = refl
in_row q t zero (v ∷ vs) h d =
    by_option (node_find q v.items)
    (λ (e : node_find q v.items ≡ None).
    ap (option_and_then (part_if (t + 0))) (find_skip q v.items (row_nodes vs) e)
    ∙ by_option (node_find q (row_nodes vs))
    (λ (g : node_find q (row_nodes vs) ≡ None). ap (option_and_then (part_if (t + 0))) g)
    (λ (n : Node) (g : node_find q (row_nodes vs) ≡ Some n).
    let l : t + 1 ≤ (out-Node n).task = of_found q (λ n. t + 1 ≤ (out-Node n).task) (row_nodes vs) n (later_tasks (t + 1) (t + 1) (omega arith) vs h.2) g in
    ap (option_and_then (part_if (t + 0))) g ∙ part_no (t + 0) n (λ s. absurd (omega arith)))
    ∙ sym (ap (option_map item_part_of) e))
    (λ (n : Node) (e : node_find q v.items ≡ Some n).
    let s : (out-Node n).task ≡ t = of_found q (λ n. (out-Node n).task ≡ t) v.items n (each_heads t v.items h.0) e in
    ap (option_and_then (part_if (t + 0))) (find_hit q v.items (row_nodes vs) n e) ∙ part_yes (t + 0) n (omega arith) ∙ sym (ap (option_map item_part_of) e))
in_row q t (suc k) (v ∷ vs) h d =
    let dd = subst Distinct (kids-append v.items (row_nodes vs)) d in
    let next : option_and_then (part_if (t + suc k)) (node_find q (row_nodes vs)) ≡ option_map item_part_of (node_find q (row_at (slice_get vs k))) =
    ap (λ z. option_and_then (part_if z) (node_find q (row_nodes vs))) (omega arith) ∙ in_row q (t + 1) k vs h.2 (distinct_back (kids v.items) (kids (row_nodes vs)) dd) in
    by_option (node_find q v.items)
    (λ (e : node_find q v.items ≡ None). ap (option_and_then (part_if (t + suc k))) (find_skip q v.items (row_nodes vs) e) ∙ next)
    (λ (n : Node) (e : node_find q v.items ≡ Some n).
    let s : (out-Node n).task ≡ t = of_found q (λ n. (out-Node n).task ≡ t) v.items n (each_heads t v.items h.0) e in
    ap (option_and_then (part_if (t + suc k))) (find_hit q v.items (row_nodes vs) n e) ∙ part_no (t + suc k) n (λ u. absurd (omega arith))
    ∙ sym (ap (option_and_then (part_if (t + suc k))) (not_again q v.items (row_nodes vs) n dd e)) ∙ next)

-- ---- in the entries
module _ (names : ℕ → List ℕ) where
  abbrev ents : Node → Entries
  ents = node_entries names

  at_hit : (q : Ident) (xs ys : Entries) (x : Site) → at q xs ≡ Some x → at q (xs ++ ys) ≡ Some x
  at_hit q [] ys x e = nowhere e
  at_hit q (z ∷ xs) ys x e =
      by_test (eq_by_cmp lexical q z.0)
      (λ (t : eq_by_cmp lexical q z.0 ≡ true). ap (λ b. cond b (Some z.1) (at q (xs ++ ys))) t ∙ ap (λ b. cond b (Some z.1) (at q xs)) (sym t) ∙ e)
      (λ (t : eq_by_cmp lexical q z.0 ≡ false). ap (λ b. cond b (Some z.1) (at q (xs ++ ys))) t ∙ at_hit q xs ys x (ap (λ b. cond b (Some z.1) (at q xs)) (sym t) ∙ e))

  module _ (q i : Ident) (qc : IsChild i q) where
    here_or_not : (n : Node) → IsBoxedNode n → IsChild i (out-Node n).id → at q (ents n) ≡ cond (eq_by_cmp lexical q (out-Node n).id) (Some (item_site names n)) None
    here_or_not n b c =
        by_test (eq_by_cmp lexical q (out-Node n).id)
        (λ (t : eq_by_cmp lexical q (out-Node n).id ≡ true). ap (at q) (node_entries_is names n) ∙ ap (λ z. cond z (Some (item_site names n)) (at q (below_net names (out-Node n).net ++ below_run names (out-Node n).run))) t ∙ sym (ap (λ z. cond z (Some (item_site names n)) None) t))
        (λ (t : eq_by_cmp lexical q (out-Node n).id ≡ false).
        let off : under q (out-Node n).id ≡ false = not_true _ (λ u.
        let s : q ≡ (out-Node n).id = under_same q q (out-Node n).id (child_length i q qc ∙ sym (child_length i (out-Node n).id c)) (under_refl q) u in
        never (sym t ∙ ap (λ z. eq_by_cmp lexical z (out-Node n).id) s ∙ tied_self by_name (out-Node n).id)) in
        at_under q (out-Node n).id (ents n) (node_keys names n b) off ∙ sym (ap (λ z. cond z (Some (item_site names n)) None) t))

    pub site_of_items : (ns : List Node) → Each IsBoxedNode ns → Each (IsChild i) (kids ns) → at q (flat ents ns) ≡ option_map (item_site names) (node_find q ns)
    site_of_items [] b c = refl
    site_of_items (n ∷ ns) b c =
        let h = here_or_not n b.0 c.0 in
        by_test (eq_by_cmp lexical q (out-Node n).id)
        (λ (t : eq_by_cmp lexical q (out-Node n).id ≡ true).
        at_hit q (ents n) (flat ents ns) (item_site names n) (h ∙ ap (λ z. cond z (Some (item_site names n)) None) t)
        ∙ sym (ap (option_map (item_site names)) (ap (λ z. cond z (Some n) (node_find q ns)) t)))
        (λ (t : eq_by_cmp lexical q (out-Node n).id ≡ false).
        at_skip q (ents n) (flat ents ns) (h ∙ ap (λ z. cond z (Some (item_site names n)) None) t) ∙ site_of_items ns b.1 c.1
        ∙ sym (ap (option_map (item_site names)) (ap (λ z. cond z (Some n) (node_find q ns)) t)))

-- ---- as the definitions list them

abbrev pub if_task : ℕ → ItemPart → Option ItemPart
if_task k x = if x.task == k then Some x else None

abbrev pub item_if : Ident → ℕ → Ident → Site → Option ItemPart
item_if i k j x = if is_child j i then option_and_then (if_task k) x.item else None

abbrev with_key : Ident → ItemPart → Ident × ItemPart
with_key j x = (j, x)

picks_if : (b : Bool) (j : Ident) (x : ItemPart) → cond b (Some (with_key j x)) None ≡ option_map (with_key j) (cond b (Some x) None)
picks_if true j x = refl
picks_if false j x = refl

picks_by : (c : Bool) (j : Ident) (k : ℕ) (o : Option ItemPart) → cond c (option_and_then (λ (x : ItemPart). if x.task == k then Some (with_key j x) else None) o) None ≡ option_map (with_key j) (cond c (option_and_then (if_task k) o) None)
picks_by false j k o = refl
picks_by true j k None = refl
picks_by true j k (Some x) = picks_if (x.task == k) j x

pub picks : (i : Ident) (k : ℕ) (e : Ident × Site) → item_of_task i k e.0 e.1 ≡ pick (item_if i k) e
picks i k e = picks_by (is_child e.0 i) e.0 k e.1.item

-- what stands beside a net has no item directly under the net's identity
abbrev pub NoItems : Ident → Entries → Type 0
NoItems i es = (q : Ident) (x : Site) → is_child q i ≡ true → find lexical q es ≡ Some x → x.item ≡ None

abbrev pub row_parts : List Node → List (Ident × ItemPart)
row_parts ns = map (λ n. with_key (out-Node n).id (item_part_of n)) ns

find_part : (q : Ident) (ns : List Node) → find lexical q (row_parts ns) ≡ option_map item_part_of (node_find q ns)
find_part q [] = refl
find_part q (n ∷ ns) =
    by_test (eq_by_cmp lexical q (out-Node n).id)
    (λ (t : eq_by_cmp lexical q (out-Node n).id ≡ true). ap (λ z. cond z (Some (item_part_of n)) (find lexical q (row_parts ns))) t ∙ sym (ap (option_map item_part_of) (ap (λ z. cond z (Some n) (node_find q ns)) t)))
    (λ (t : eq_by_cmp lexical q (out-Node n).id ≡ false). ap (λ z. cond z (Some (item_part_of n)) (find lexical q (row_parts ns))) t ∙ find_part q ns ∙ sym (ap (option_map item_part_of) (ap (λ z. cond z (Some n) (node_find q ns)) t)))

-- order speaks of keys alone
below_keys : (k : Ident) (ns : List Node) → T (below_all lexical k (map head ns)) → T (below_all lexical k (row_parts ns))
below_keys k [] h = tt
below_keys k (n ∷ ns) h = let p = halves _ _ h in joined _ _ p.0 (below_keys k ns p.1)

sorted_keys : (ns : List Node) → T (is_sorted lexical (map head ns)) → T (is_sorted lexical (row_parts ns))
sorted_keys [] h = tt
sorted_keys (n ∷ ns) h = let p = halves _ _ h in joined _ _ (below_keys (out-Node n).id ns p.0) (sorted_keys ns p.1)

sorted_row : (t : ℕ) (vs : List (Vec Node Global)) (k : ℕ) → AreRows t (heads vs) → T (is_sorted lexical (row_parts (row_at (slice_get vs k))))
sorted_row t [] k h = tt
sorted_row t (v ∷ vs) zero h = sorted_keys v.items h.1
sorted_row t (v ∷ vs) (suc k) h = sorted_row (t + 1) vs k h.2

module _ (names : ℕ → List ℕ) (s : State) (i : Ident) (beside : Entries) (net : NetState) (b : IsBoxedNet net) (net_at : IsNetAt i net) (quiet : NoItems i beside) (shows : ShowsNet names s.sites i beside net) where
  row : ℕ → List Node
  row k = row_at (slice_get (out-NetState net).items.items k)

  at_child : (k : ℕ) (q : Ident) → is_child q i ≡ true → option_and_then (item_if i k q) (get s.sites q) ≡ find lexical q (row_parts (row_at (slice_get (out-NetState net).items.items k)))
  at_child k q c =
      let qc = child_of q i c in
      let g = item_if i k q in
      let vs = (out-NetState net).items.items in
      let each = below_every_net AtNet AtNode AtRun net b in
      let children = subst (AreChildren i) (ids_are net) net_at in
      let items : find lexical q (net_entries names net).1 ≡ option_map (item_site names) (node_find q (nodes net)) = ap (λ z. find lexical q z.1) (net_entries_is names net) ∙ site_of_items names q i qc (nodes net) each children.0 in
      let from_zero : k ≡ 0 + k = omega arith in
      let alone : option_and_then g (find lexical q ((net_entries names net).1 ++ beside)) ≡ option_and_then g (option_map (item_site names) (node_find q (nodes net))) =
      by_option (node_find q (nodes net))
      (λ (e : node_find q (nodes net) ≡ None).
      ap (option_and_then g) (at_skip q (net_entries names net).1 beside (items ∙ ap (option_map (item_site names)) e)) ∙ nothing q k c ∙ sym (ap (λ o. option_and_then g (option_map (item_site names) o)) e))
      (λ (n : Node) (e : node_find q (nodes net) ≡ Some n).
      ap (option_and_then g) (at_hit names q (net_entries names net).1 beside (item_site names n) (items ∙ ap (option_map (item_site names)) e)) ∙ sym (ap (λ o. option_and_then g (option_map (item_site names) o)) e)) in
      ap (option_and_then g) (shows.below q (child_strictly q i c)) ∙ alone ∙ as_part k q c (node_find q (nodes net)) ∙ ap (λ z. option_and_then (part_if z) (node_find q (nodes net))) from_zero ∙ in_row q 0 k vs (every_here-NetState AtNet AtNode AtRun net b) children.1 ∙ sym (find_part q (row_at (slice_get vs k)))
    where
      nothing : (q : Ident) (k : ℕ) → is_child q i ≡ true → option_and_then (item_if i k q) (find lexical q beside) ≡ None
      nothing q k c =
          by_option (find lexical q beside)
          (λ (e : find lexical q beside ≡ None). ap (option_and_then (item_if i k q)) e)
          (λ (x : Site) (e : find lexical q beside ≡ Some x).
          ap (option_and_then (item_if i k q)) e ∙ ap (λ z. cond z (option_and_then (if_task k) x.item) None) c ∙ ap (option_and_then (if_task k)) (quiet q x c e))

      as_part : (k : ℕ) (q : Ident) → is_child q i ≡ true → (o : Option Node) → option_and_then (item_if i k q) (option_map (item_site names) o) ≡ option_and_then (part_if k) o
      as_part k q c None = refl
      as_part k q c (Some n) = ap (λ z. cond z (if_task k (item_part_of n)) None) c

  at_any : (k : ℕ) (q : Ident) → option_and_then (item_if i k q) (get s.sites q) ≡ find lexical q (row_parts (row_at (slice_get (out-NetState net).items.items k)))
  at_any k q =
      by_test (is_child q i)
      (at_child k q)
      (λ (c : is_child q i ≡ false). no_item k q c (get s.sites q) ∙ sym (no_part q (row_at (slice_get (out-NetState net).items.items k)) c (row_children (out-NetState net).items.items k (subst (λ z. Each (IsChild i) z) (ids_are net) net_at.0))))
    where
      no_item : (k : ℕ) (q : Ident) → is_child q i ≡ false → (o : Option Site) → option_and_then (item_if i k q) o ≡ None
      no_item k q c None = refl
      no_item k q c (Some x) = ap (λ z. cond z (option_and_then (if_task k) x.item) None) c

      row_children : (vs : List (Vec Node Global)) (k : ℕ) → Each (IsChild i) (kids (row_nodes vs)) → Each (IsChild i) (kids (row_at (slice_get vs k)))
      row_children [] k h = tt
      row_children (v ∷ vs) zero h = Each-front (IsChild i) (kids v.items) (kids (row_nodes vs)) (subst (Each (IsChild i)) (kids-append v.items (row_nodes vs)) h)
      row_children (v ∷ vs) (suc k) h = row_children vs k (Each-back (IsChild i) (kids v.items) (kids (row_nodes vs)) (subst (Each (IsChild i)) (kids-append v.items (row_nodes vs)) h))

      no_part : (q : Ident) (ns : List Node) → is_child q i ≡ false → Each (IsChild i) (kids ns) → find lexical q (row_parts ns) ≡ None
      no_part q [] c h = refl
      no_part q (n ∷ ns) c h =
          by_test (eq_by_cmp lexical q (out-Node n).id)
          (λ (t : eq_by_cmp lexical q (out-Node n).id ≡ true). never (sym c ∙ ap (λ z. is_child z i) (tied by_name q (out-Node n).id t) ∙ is_child_of (out-Node n).id i h.0))
          (λ (t : eq_by_cmp lexical q (out-Node n).id ≡ false). ap (λ z. cond z (Some (item_part_of n)) (find lexical q (row_parts ns))) t ∙ no_part q ns c h.1)

  -- the items of task k in the net at i, in order of identity, are those of the net's list
  pub items_are : (k : ℕ) → items_of s i k ≡ row_parts (row_at (slice_get (out-NetState net).items.items k))
  items_are k =
      same_filter (λ e. item_of_task i k e.0 e.1) (pick (item_if i k)) (picks i k) (entries s.sites)
      ∙ same_entries lexical by_name.total by_name.same (picked (item_if i k) (entries s.sites)) (row_parts (row_at (slice_get (out-NetState net).items.items k)))
      (sorted_picked (item_if i k) (entries s.sites) s.sites.sorted)
      (sorted_row 0 (out-NetState net).items.items k (every_here-NetState AtNet AtNode AtRun net b))
      (λ q. find_picked (item_if i k) q (entries s.sites) s.sites.sorted ∙ at_any k q)
