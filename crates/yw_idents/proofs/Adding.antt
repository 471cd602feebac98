-- Identities that are added one after another.
use Rattle.std.proofs.Common.{List, [], ap, append_assoc, get_or, length, refl, sym, take, ℕ, ◌++◌, ◌+◌, ◌<◌, ◌∙◌, ◌∷◌, ◌≡◌, ◌≤◌}
use Rattle.std.proofs.lemmas.List.{map-append, take_all, take_more}
use Rattle.std.specs.Borrow.{Bor}
use Rattle.std.specs.Prelude.{Err, Ok, OnOk, Result, Vec}
use Rattle.std.specs.declared.alloc.Global.{Global}
use Rattle.yw_idents.specs.Idents.{Adds, idents_of, lent}
use Rattle.yw_sites.proofs.Each.{nil_right}
use Rattle.yw_sites.specs.Entries.{Entries, Entry}
use Rattle.yw_state.specs.Identity.{Ident}
use Rattle.yw_tree.proofs.Equations.{flat-append, net_entries_is, node_entries_is, run_entries_is}
use Rattle.yw_tree.specs.Entries.{below_net, below_run, flat, net_entries, node_entries, row_nodes, run_entries}
use Rattle.yw_tree.specs.declared.NetState.{NetState, out-NetState}
use Rattle.yw_tree.specs.declared.Node.{Node, out-Node}
use Rattle.yw_tree.specs.declared.Run.{Run, out-Run}

-- ---- one after another

pub one_added : (bs cs : List (Bor Ident)) (b : Bor Ident) → cs ≡ bs ++ b ∷ [] → Adds bs cs (b.now ∷ [])
one_added bs cs b e = ap lent e ∙ map-append (λ (c : Bor Ident). c.now) bs (b ∷ [])

pub both_added : (bs cs ds : List (Bor Ident)) (js ks : List Ident) → Adds bs cs js → Adds cs ds ks → Adds bs ds (js ++ ks)
both_added bs cs ds js ks first then = then ∙ ap (λ z. z ++ ks) first ∙ append_assoc (lent bs) js ks

pub idents_both : (es fs : Entries) → idents_of (es ++ fs) ≡ idents_of es ++ idents_of fs
idents_both es fs = map-append (λ (e : Entry). e.0) es fs

-- ---- by the boxes

module _ (names : ℕ → List ℕ) where
  abbrev pub listed : List Node → List Ident
  listed ns = idents_of (flat (node_entries names) ns)

  listed_both : (xs ys : List Node) → listed (xs ++ ys) ≡ listed xs ++ listed ys
  listed_both xs ys = ap idents_of (flat-append names xs ys) ∙ idents_both (flat (node_entries names) xs) (flat (node_entries names) ys)

  rows_both : (xs ys : List (Vec Node Global)) → row_nodes (xs ++ ys) ≡ row_nodes xs ++ row_nodes ys
  rows_both [] ys = refl
  rows_both (x ∷ xs) ys = ap (λ z. x.items ++ z) (rows_both xs ys) ∙ sym (append_assoc x.items (row_nodes xs) (row_nodes ys))

  abbrev pub rows_listed : List (Vec Node Global) → List Ident
  rows_listed vs = listed (row_nodes vs)

  -- one list more of a net
  pub next_row : (bs cs ds : List (Bor Ident)) (vs : List (Vec Node Global)) (i : ℕ) (v : Vec Node Global) → i < length vs
      → v ≡ get_or vs i v
      → Adds bs cs (rows_listed (take i vs)) → Adds cs ds (listed v.items) → Adds bs ds (rows_listed (take (i + 1) vs))
  next_row bs cs ds vs i v l at old new =
      let more : rows_listed (take (i + 1) vs) ≡ rows_listed (take i vs) ++ listed v.items =
      ap rows_listed (take_more vs i v l ∙ ap (λ x. take i vs ++ x ∷ []) (sym at)) ∙ ap listed (rows_both (take i vs) (v ∷ []))
      ∙ ap (λ z. listed (row_nodes (take i vs) ++ z)) (nil_right v.items) ∙ listed_both (row_nodes (take i vs)) v.items in
      both_added bs cs ds (rows_listed (take i vs)) (listed v.items) old new ∙ ap (λ z. lent bs ++ z) (sym more)

  pub all_rows : (bs cs : List (Bor Ident)) (s : NetState) (i : ℕ) → length (out-NetState s).items.items ≤ i
      → Adds bs cs (rows_listed (take i (out-NetState s).items.items)) → Adds bs cs (idents_of (net_entries names s).1)
  all_rows bs cs s i l h =
      h ∙ ap (λ z. lent bs ++ rows_listed z) (take_all i (out-NetState s).items.items l) ∙ ap (λ z. lent bs ++ idents_of z.1)
      (sym (net_entries_is names s))

  -- an item, and what is below it
  pub item_added : (bs cs ds es : List (Bor Ident)) (n : Node) → Adds bs cs ((out-Node n).id ∷ [])
      → Adds cs ds (idents_of (below_net names (out-Node n).net))
      → Adds ds es (idents_of (below_run names (out-Node n).run)) → Adds bs es (idents_of (node_entries names n))
  item_added bs cs ds es n own net run =
      let below = below_net names (out-Node n).net in
      let hung = below_run names (out-Node n).run in
      both_added bs cs es ((out-Node n).id ∷ []) (idents_of below ++ idents_of hung) own
      (both_added cs ds es (idents_of below) (idents_of hung) net run)
      ∙ ap (λ z. lent bs ++ ((out-Node n).id ∷ z)) (sym (idents_both below hung))
      ∙ ap (λ z. lent bs ++ idents_of z) (sym (node_entries_is names n))

  pub run_added : (bs cs ds : List (Bor Ident)) (r : Run) → Adds bs cs ((out-Run r).id ∷ [])
      → Adds cs ds (idents_of (below_net names (out-Run r).net))
      → Adds bs ds (idents_of (run_entries names r))
  run_added bs cs ds r own net =
      both_added bs cs ds ((out-Run r).id ∷ []) (idents_of (below_net names (out-Run r).net)) own net
      ∙ ap (λ z. lent bs ++ idents_of z) (sym (run_entries_is names r))

-- what is so where a result is Ok
pub ok_then : {A E : Type 0} (r : Result A E) (P Q : Type 0) → OnOk r P → (P → Q) → OnOk r Q
ok_then (Ok a) P Q p h = h p
ok_then (Err e) P Q p h = p
