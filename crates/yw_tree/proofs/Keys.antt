-- The entries of a part lie under its identity.
use Rattle.std.proofs.Common.{List, None, Option, Some, [], ap, map, refl, subst, sym, true, ℕ, ◌++◌, ◌∙◌, ◌∷◌, ◌≡◌}
use Rattle.std.specs.Prelude.{Box, Vec}
use Rattle.std.specs.declared.alloc.Global.{Global}
use Rattle.yw_base.specs.Identity.{under}
use Rattle.yw_sites.proofs.Children.{children_front}
use Rattle.yw_sites.proofs.Each.{Each-append, Each-back, nil_right}
use Rattle.yw_sites.proofs.Prefix.{child_under, under_refl}
use Rattle.yw_sites.proofs.Swaps.{lift_keys}
use Rattle.yw_sites.specs.Entries.{Entry, AllUnder}
use Rattle.yw_sites.specs.Idents.{AreChildren, Each, IsChild}
use Rattle.yw_state.specs.Identity.{Ident}
use Rattle.yw_tree.proofs.Equations.{net_entries_is, node_entries_is, run_entries_is}
use Rattle.yw_tree.proofs.Induct.{below_every_net, below_every_node, below_every_run, each_net, each_node, each_run}
use Rattle.yw_tree.specs.Boxed.{AtNet, AtNode, AtRun, Held, IsBoxedCase, IsBoxedNet, IsBoxedNode, IsBoxedRun, IsNetAt, head, heads, ids, ids_of, net_ids, run_ids}
use Rattle.yw_tree.specs.Entries.{below_net, below_run, case_entries, flat, net_entries, node_entries, nodes, row_nodes, run_entries}
use Rattle.yw_tree.specs.declared.Case.{Case}
use Rattle.yw_tree.specs.declared.NetState.{NetState, out-NetState}
use Rattle.yw_tree.specs.declared.Node.{Node, every_here-Node, out-Node}
use Rattle.yw_tree.specs.declared.Run.{Run, every_here-Run, out-Run}

-- ---- the identities of a net's items
abbrev pub kids : List Node → List Ident
kids xs = map (λ n. (out-Node n).id) xs

pub kids-append : (xs ys : List Node) → kids (xs ++ ys) ≡ kids xs ++ kids ys
kids-append [] ys = refl
kids-append (x ∷ xs) ys = ap (λ r. (out-Node x).id ∷ r) (kids-append xs ys)

row_kids : (xs : List Node) → map (λ (h : Ident × ℕ). h.0) (map head xs) ≡ kids xs
row_kids [] = refl
row_kids (x ∷ xs) = ap (λ r. (out-Node x).id ∷ r) (row_kids xs)

rows_kids : (vs : List (Vec Node Global)) → ids_of (heads vs) ≡ kids (row_nodes vs)
rows_kids [] = refl
rows_kids (v ∷ vs) = (λ k. row_kids v.items k ++ rows_kids vs k) ∙ sym (kids-append v.items (row_nodes vs))

pub ids_are : (s : NetState) → ids s ≡ kids (nodes s)
ids_are s = rows_kids (out-NetState s).items.items

module _ (names : ℕ → List ℕ) where
  abbrev KeysNet : NetState → Type 0
  KeysNet s = (i : Ident) → IsBoxedNet s → IsNetAt i s → AllUnder i (net_entries names s).1

  abbrev KeysNode : Node → Type 0
  KeysNode n = IsBoxedNode n → AllUnder (out-Node n).id (node_entries names n)

  abbrev KeysRun : Run → Type 0
  KeysRun r = IsBoxedRun r → AllUnder (out-Run r).id (run_entries names r)

  keys_list : (i : Ident) (xs : List Node) → Each KeysNode xs → Each IsBoxedNode xs → Each (IsChild i) (kids xs) → AllUnder i (flat (node_entries names) xs)
  keys_list i [] p q c = tt
  keys_list i (x ∷ xs) p q c = Each-append (λ (e : Entry). under e.0 i ≡ true) (node_entries names x) (flat (node_entries names) xs) (lift_keys i (out-Node x).id (child_under i (out-Node x).id c.0) (node_entries names x) (p.0 q.0)) (keys_list i xs p.1 q.1 c.1)

  keys_net : (s : NetState) → Each KeysNode (nodes s) → KeysNet s
  keys_net s p i b at = subst (λ z. AllUnder i z) (sym (ap (λ z. z.1) (net_entries_is names s))) (keys_list i (nodes s) p (below_every_net AtNet AtNode AtRun s b) (subst (Each (IsChild i)) (ids_are s) at.0))

  keys_below : (i : Ident) (o : Option (Box NetState Global)) (js : List Ident) → Held KeysNet o → Held IsBoxedNet o → AreChildren i (net_ids o ++ js) → AllUnder i (below_net names o)
  keys_below i None js p q b = tt
  keys_below i (Some x) js p q b = p i q (children_front i (ids x.value) js b)

  pub run_under : (i : Ident) (r : Option (Box Run Global)) (js : List Ident) → Held KeysRun r → Held IsBoxedRun r → AreChildren i (js ++ run_ids r) → AllUnder i (below_run names r)
  run_under i None js p q b = tt
  run_under i (Some x) js p q b =
      let c : IsChild i (out-Run x.value).id = (Each-back (IsChild i) js (run_ids (Some x)) b.0).0 in
      lift_keys i (out-Run x.value).id (child_under i (out-Run x.value).id c) (run_entries names x.value) (p q)

  keys_node : (n : Node) → Held KeysNet (out-Node n).net → Held KeysRun (out-Node n).run → KeysNode n
  keys_node n p q b =
      let d = below_every_node AtNet AtNode AtRun n b in
      let l = out-Node n in
      let here : AreChildren l.id (net_ids l.net ++ run_ids l.run) = every_here-Node AtNet AtNode AtRun n b in
      subst (λ z. AllUnder l.id z) (sym (node_entries_is names n)) (
        under_refl l.id,
        Each-append (λ (e : Entry). under e.0 l.id ≡ true) (below_net names l.net) (below_run names l.run)
            (keys_below l.id l.net (run_ids l.run) p d.0 here)
            (run_under l.id l.run (net_ids l.net) q d.1 here),
      )

  keys_run : (r : Run) → Held KeysNet (out-Run r).net → KeysRun r
  keys_run r p b =
      let d = below_every_run AtNet AtNode AtRun r b in
      let l = out-Run r in
      let here : AreChildren l.id (net_ids l.net) = every_here-Run AtNet AtNode AtRun r b in
      subst (λ z. AllUnder l.id z) (sym (run_entries_is names r)) (under_refl l.id, keys_below l.id l.net [] p d (subst (AreChildren l.id) (sym (nil_right (net_ids l.net))) here))

  pub net_keys : (s : NetState) → KeysNet s
  net_keys = each_net KeysNet KeysNode KeysRun keys_net keys_node keys_run

  pub node_keys : (n : Node) → KeysNode n
  node_keys = each_node KeysNet KeysNode KeysRun keys_net keys_node keys_run

  pub run_keys : (r : Run) → KeysRun r
  run_keys = each_run KeysNet KeysNode KeysRun keys_net keys_node keys_run

  pub held_keys : (o : Option (Box Run Global)) → Held KeysRun o
  held_keys None = tt
  held_keys (Some x) = run_keys x.value

  pub case_keys : (c : Case) → IsBoxedCase c → AllUnder c.id (case_entries names c)
  case_keys c b = (
    under_refl c.id,
    Each-append (λ (e : Entry). under e.0 c.id ≡ true) (net_entries names c.net).1 (below_run names c.run)
        (net_keys c.net c.id b.net (children_front c.id (ids c.net) (run_ids c.run) b.here))
        (run_under c.id c.run (ids c.net) (held_keys c.run) b.run b.here),
  )
