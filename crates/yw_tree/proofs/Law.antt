-- What placing an item does: its entries come in place of those of the old one, all others stay, and all stays well boxed.
use Rattle.std.proofs.Common.{Bool, List, None, Option, Some, [], ap, cond, false, subst, suc, sym, true, zero, ℕ, ◌++◌, ◌∙◌, ◌∷◌, ◌≡◌}
use Rattle.std.specs.Prelude.{Box}
use Rattle.std.specs.declared.alloc.Global.{Global}
use Rattle.yw_base.specs.Identity.{under}
use Rattle.yw_sites.proofs.Children.{children_front, others_off, strictly}
use Rattle.yw_sites.proofs.Each.{Each-append, Each-back, Each-front, each_mid, each_put, each_rest}
use Rattle.yw_sites.proofs.Prefix.{not_above}
use Rattle.yw_sites.proofs.Swaps.{keys_apart, swaps_after, swaps_before, swaps_whole}
use Rattle.yw_sites.specs.Entries.{Entries, Entry, NoneUnder, Swaps}
use Rattle.yw_sites.specs.Idents.{AreChildren, Each, IsChild}
use Rattle.yw_state.proofs.Tests.{by_option, by_test, never, nowhere, some_same}
use Rattle.yw_state.specs.Identity.{Ident, same}
use Rattle.yw_state.specs.State.{NetPart, no_checks}
use Rattle.yw_tree.proofs.Equations.{flat-append, net_entries_is, node_entries_is, run_entries_is}
use Rattle.yw_tree.proofs.Induct.{below_every_net, below_every_node, below_every_run}
use Rattle.yw_tree.proofs.Keys.{ids_are, kids, kids-append, node_keys, run_keys}
use Rattle.yw_tree.proofs.Made.{made_net, made_node, made_run}
use Rattle.yw_tree.proofs.Split.{in_net, nodes_put, opened, out_with_node, place_leads, place_there, with_node_is}
use Rattle.yw_tree.proofs.Steps.{below_found, below_none, below_placed, found_is, here_found, here_placed, none_found, placed_is}
use Rattle.yw_tree.specs.Boxed.{AreRows, AtNet, AtNode, AtRun, Held, IsBoxedNet, IsBoxedNode, IsBoxedRun, IsNetAt, head, heads, ids, ids_of, net_ids, run_ids}
use Rattle.yw_tree.specs.Entries.{below_net, below_run, flat, item_site, net_entries, net_part, net_part_of, node_entries, nodes, run_entries, run_site}
use Rattle.yw_tree.specs.Ways.{inner_of, item_below, item_in, leads, net_in, net_in_run, node_at, over_node, place_of, placed_in, run_leads, run_with_net, with_inner, with_net, with_node}
use Rattle.yw_tree.specs.declared.NetState.{NetState, NetState-F, every_here-NetState, out-NetState, out-roll-NetState, roll-NetState}
use Rattle.yw_tree.specs.declared.Node.{Node, Node-F, every_here-Node, out-Node, out-roll-Node, roll-Node}
use Rattle.yw_tree.specs.declared.Run.{Run, Run-F, every_here-Run, out-Run, out-roll-Run, roll-Run}

module _ (names : ℕ → List ℕ) where
  abbrev ents : Node → Entries
  ents = node_entries names

  pub list_apart : (id i : Ident) → under i id ≡ false → (xs : List Node) → Each IsBoxedNode xs → Each (IsChild i) (kids xs) → Each (λ k. under id k ≡ false) (kids xs) → NoneUnder id (flat ents xs)
  list_apart id i out [] b c h = tt
  list_apart id i out (x ∷ xs) b c h = Each-append (λ (e : Entry). under e.0 id ≡ false) (ents x) (flat ents xs) (keys_apart id i (out-Node x).id c.0 out h.0 (ents x) (node_keys names x b.0)) (list_apart id i out xs b.1 c.1 h.1)

  pub part_is : (l : NetState-F NetState Node Run) → net_part names (roll-NetState l) ≡ record { spec = names l.spec; net = l.net; vals = l.vals; tokens = l.marks }
  part_is l = ap (λ (m : NetState-F NetState Node Run). record { spec = names m.spec; net = m.net; vals = m.vals; tokens = m.marks }) (out-roll-NetState l)

  module _ (id : Ident) (w old : Node) where
    abbrev Sw : Entries → Entries → Type 0
    Sw es fs = Swaps id (ents old) (ents w) es fs

    -- a net in which the item was placed
    pub record NetPlaced (i : Ident) (s t : NetState) : Type 0 where
      pub strict : under i id ≡ false
      pub swaps : Sw (net_entries names s).1 (net_entries names t).1
      pub part : net_part names t ≡ net_part names s
      pub same_heads : heads (out-NetState t).items.items ≡ heads (out-NetState s).items.items
      pub boxed : IsBoxedNet t

    pub record NodePlaced (n m : Node) : Type 0 where
      pub swaps : Sw (ents n) (ents m)
      pub same_head : head m ≡ head n
      pub boxed : IsBoxedNode m

    abbrev LawNet : ℕ → Type 0
    LawNet d = (i : Ident) (s : NetState) → IsBoxedNet s → IsNetAt i s → item_in d id s ≡ Some old → NetPlaced i s (placed_in d id w s)

    module _ (head_is : head w ≡ head old) (w_boxed : IsBoxedNode w) where
      -- ---- in a net, by one of its items
      in_this_net : (i : Ident) (s : NetState) (t k : ℕ) (n m : Node) → IsBoxedNet s → IsNetAt i s → node_at s t k ≡ Some n → leads id n ≡ true → NodePlaced n m → NetPlaced i s (with_node s t k m)
      in_this_net i s t k n m b at e l r =
          let q = in_net s t k n e in
          let o : NetState-F NetState Node Run = opened s t k m q.row in
          let each = subst (Each IsBoxedNode) q.whole (below_every_net AtNet AtNode AtRun s b) in
          let these : AreChildren i (kids (q.front) ++ ((out-Node n).id ∷ kids q.back)) = subst (AreChildren i) (ids_are s ∙ ap kids q.whole ∙ kids-append q.front (n ∷ q.back)) at in
          let off = others_off id i (kids q.front) (out-Node n).id (kids q.back) these l in
          let cn = each_mid (IsChild i) (kids q.front) (out-Node n).id (kids q.back) these.0 in
          let out = strictly id i (out-Node n).id cn l in
          let fr = list_apart id i out q.front (Each-front IsBoxedNode q.front (n ∷ q.back) each) (Each-front (IsChild i) (kids q.front) ((out-Node n).id ∷ kids q.back) these.0) off.0 in
          let bk = list_apart id i out q.back (each_rest IsBoxedNode q.front n q.back each) (each_rest (IsChild i) (kids q.front) (out-Node n).id (kids q.back) these.0) off.1 in
          let before : (net_entries names s).1 ≡ flat ents q.front ++ (ents n ++ flat ents q.back) = ap (λ z. z.1) (net_entries_is names s) ∙ ap (flat ents) q.whole ∙ flat-append names q.front (n ∷ q.back) in
          let after : (net_entries names (with_node s t k m)).1 ≡ flat ents q.front ++ (ents m ++ flat ents q.back) = ap (λ z. z.1) (net_entries_is names (with_node s t k m)) ∙ ap (flat ents) (nodes_put s t k n m q) ∙ flat-append names q.front (m ∷ q.back) in
          let hs : heads o.items.items ≡ heads (out-NetState s).items.items = q.same_heads m r.same_head in
          record {
            strict = out;
            swaps = subst (λ z. Sw z (net_entries names (with_node s t k m)).1) (sym before) (subst (λ z. Sw (flat ents q.front ++ (ents n ++ flat ents q.back)) z) (sym after)
                (swaps_before id (ents old) (ents w) _ _ (flat ents q.front) fr (swaps_after id (ents old) (ents w) _ _ (flat ents q.back) bk r.swaps)));
            part = ap (net_part names) (with_node_is s t k n m q) ∙ part_is o;
            same_heads = ap (λ (z : NetState-F NetState Node Run). heads z.items.items) (out_with_node s t k n m q) ∙ hs;
            boxed = subst IsBoxedNet (sym (with_node_is s t k n m q))
                (made_net AtNet AtNode AtRun o (subst (AreRows zero) (sym hs) (every_here-NetState AtNet AtNode AtRun s b))
                (subst (Each IsBoxedNode) (sym (q.put m)) (each_put IsBoxedNode q.front n m q.back each r.boxed)));
          }

      -- ---- at an item
      here : (n m : Node) → n ≡ old → m ≡ w → NodePlaced n m
      here n m e f = record {
        swaps = subst (λ z. Sw (ents z) (ents m)) (sym e) (subst (λ z. Sw (ents old) (ents z)) (sym f) (swaps_whole id (ents old) (ents w)));
        same_head = ap head f ∙ head_is ∙ ap head (sym e);
        boxed = subst IsBoxedNode (sym f) w_boxed;
      }

      -- ---- below an item or a run
      pub record BelowPlaced (o u : Option (Box NetState Global)) : Type 0 where
        pub swaps : Sw (below_net names o) (below_net names u)
        pub part : net_part_of names u ≡ net_part_of names o
        pub same_ids : net_ids u ≡ net_ids o
        pub boxed : Held IsBoxedNet u

      pub below : (i : Ident) (o : Option (Box NetState Global)) (c x : NetState) → net_in o ≡ Some c → NetPlaced i c x → BelowPlaced o (with_net o x)
      below i None c x e r = nowhere e
      below i (Some b) c x e r =
          let s : b.value ≡ c = some_same b.value c e in
          record {
            swaps = subst (λ (z : NetState). Sw (net_entries names z).1 (net_entries names x).1) (sym s) r.swaps;
            part = ap (λ (z : NetPart). Some z) (r.part ∙ ap (net_part names) (sym s));
            same_ids = ap ids_of (r.same_heads ∙ ap (λ (z : NetState). heads (out-NetState z).items.items) (sym s));
            boxed = r.boxed;
          }

      pub net_apart : (i : Ident) (s : NetState) → under i id ≡ false → IsBoxedNet s → Each (IsChild i) (ids s) → Each (λ k. under id k ≡ false) (ids s) → NoneUnder id (net_entries names s).1
      net_apart i s out b c h =
          subst (NoneUnder id) (sym (ap (λ z. z.1) (net_entries_is names s)))
          (list_apart id i out (nodes s) (below_every_net AtNet AtNode AtRun s b) (subst (Each (IsChild i)) (ids_are s) c) (subst (Each (λ k. under id k ≡ false)) (ids_are s) h))

      pub below_apart : (i : Ident) (o : Option (Box NetState Global)) → under i id ≡ false → Held IsBoxedNet o → Each (IsChild i) (net_ids o) → Each (λ k. under id k ≡ false) (net_ids o) → NoneUnder id (below_net names o)
      below_apart i None out b c h = tt
      below_apart i (Some x) out b c h = net_apart i x.value out b c h

      pub run_apart : (i : Ident) (r : Option (Box Run Global)) → under i id ≡ false → Held IsBoxedRun r → Each (IsChild i) (run_ids r) → run_leads id r ≡ false → NoneUnder id (below_run names r)
      run_apart i None out b c h = tt
      run_apart i (Some x) out b c h = keys_apart id i (out-Run x.value).id c.0 out h (run_entries names x.value) (run_keys names x.value b)

      -- a run, one level open
      abbrev run_open : Run-F NetState Node Run → Entries
      run_open l = (l.id, record { net = net_part_of names l.net; item = None; run = Some (record { rest = l.rest; waiting = l.waiting }); suspended = false; due = no_checks }) ∷ below_net names l.net

      run_rolled : (l : Run-F NetState Node Run) → run_entries names (roll-Run l) ≡ run_open l
      run_rolled l = run_entries_is names (roll-Run l) ∙ ap run_open (out-roll-Run l)

      pub record RunPlaced (r u : Option (Box Run Global)) : Type 0 where
        pub swaps : Sw (below_run names r) (below_run names u)
        pub same_ids : run_ids u ≡ run_ids r
        pub boxed : Held IsBoxedRun u

      pub in_run : (r : Option (Box Run Global)) (c x : NetState) → Held IsBoxedRun r → net_in_run r ≡ Some c → ((i : Ident) → IsBoxedNet c → IsNetAt i c → NetPlaced i c x) → RunPlaced r (run_with_net r x)
      in_run None c x b e h = nowhere e
      in_run (Some y) c x b e h =
          let l = out-Run y.value in
          let g = net_held l.net c e (below_every_run AtNet AtNode AtRun y.value b) (every_here-Run AtNet AtNode AtRun y.value b) in
          let p = h l.id g.0 g.1 in
          let q = below l.id l.net c x e p in
          let m : Run-F NetState Node Run = record l { net = with_net l.net x } in
          let site : run_open m ≡ (l.id, run_site names y.value) ∷ below_net names m.net = ap (λ (z : Option NetPart). (l.id, record (run_site names y.value) { net = z }) ∷ below_net names m.net) q.part in
          record {
            swaps = subst (λ z. Sw z (run_entries names (roll-Run m))) (sym (run_entries_is names y.value))
                (subst (λ z. Sw ((l.id, run_site names y.value) ∷ below_net names l.net) z) (sym (run_rolled m ∙ site))
                (swaps_before id (ents old) (ents w) _ _ ((l.id, run_site names y.value) ∷ []) (p.strict, tt) q.swaps));
            same_ids = ap (λ (z : Run-F NetState Node Run). z.id ∷ []) (out-roll-Run m);
            boxed = made_run AtNet AtNode AtRun m (subst (AreChildren l.id) (sym q.same_ids) (every_here-Run AtNet AtNode AtRun y.value b)) q.boxed;
          }
        where
          net_held : (o : Option (Box NetState Global)) (c : NetState) → net_in o ≡ Some c → Held IsBoxedNet o → AreChildren (out-Run y.value).id (net_ids o) → IsBoxedNet c × IsNetAt (out-Run y.value).id c
          net_held None c e b a = nowhere e
          net_held (Some z) c e b a = let s : z.value ≡ c = some_same z.value c e in (subst IsBoxedNet s b, subst (IsNetAt (out-Run y.value).id) s a)

      -- an item, one level open
      abbrev node_open : Node-F NetState Node Run → Entries
      node_open l = (l.id, record { net = net_part_of names l.net; item = Some (record { task = l.task; stage = l.stage; given = l.given; made = l.made; who = l.who }); run = None; suspended = l.suspended; due = l.due }) ∷ (below_net names l.net ++ below_run names l.run)

      pub node_rolled : (l : Node-F NetState Node Run) → ents (roll-Node l) ≡ node_open l
      node_rolled l = node_entries_is names (roll-Node l) ∙ ap node_open (out-roll-Node l)

      -- ---- an item that leads further down
      module _ (n : Node) (b : IsBoxedNode n) (l : leads id n ≡ true) (t : same (out-Node n).id id ≡ false) where
        out_here : under (out-Node n).id id ≡ false
        out_here = not_above id (out-Node n).id l t

        down : Held IsBoxedNet (out-Node n).net × Held IsBoxedRun (out-Node n).run
        down = below_every_node AtNet AtNode AtRun n b

        children : AreChildren (out-Node n).id (net_ids (out-Node n).net ++ run_ids (out-Node n).run)
        children = every_here-Node AtNet AtNode AtRun n b

        abbrev entry : Entries
        entry = ((out-Node n).id, item_site names n) ∷ []

        -- through its run
        by_run : (c x : NetState) → run_leads id (out-Node n).run ≡ true → net_in_run (out-Node n).run ≡ Some c → ((i : Ident) → IsBoxedNet c → IsNetAt i c → NetPlaced i c x)
            → NodePlaced n (roll-Node (record (out-Node n) { run = run_with_net (out-Node n).run x }))
        by_run c x lr e h =
            let o = out-Node n in
            let q = in_run o.run c x down.1 e h in
            let m : Node-F NetState Node Run = record o { run = run_with_net o.run x } in
            let off = net_off o.run lr children in
            let fr = below_apart o.id o.net out_here down.0 (Each-front (IsChild o.id) (net_ids o.net) (run_ids o.run) children.0) off in
            record {
              swaps = subst (λ z. Sw z (ents (roll-Node m))) (sym (node_entries_is names n))
                  (subst (λ z. Sw (entry ++ (below_net names o.net ++ below_run names o.run)) z) (sym (node_rolled m))
                  (swaps_before id (ents old) (ents w) _ _ entry (out_here, tt) (swaps_before id (ents old) (ents w) _ _ (below_net names o.net) fr q.swaps)));
              same_head = ap (λ (z : Node-F NetState Node Run). (z.id, z.task)) (out-roll-Node m);
              boxed = made_node AtNet AtNode AtRun m (subst (λ z. AreChildren o.id (net_ids o.net ++ z)) (sym q.same_ids) children) down.0 q.boxed;
            }
          where
            net_off : (r : Option (Box Run Global)) → run_leads id r ≡ true → AreChildren (out-Node n).id (net_ids (out-Node n).net ++ run_ids r) → Each (λ k. under id k ≡ false) (net_ids (out-Node n).net)
            net_off None lr c = never lr
            net_off (Some y) lr c = (others_off id (out-Node n).id (net_ids (out-Node n).net) (out-Run y.value).id [] c lr).0

        -- through its net
        by_net : (c x : NetState) → run_leads id (out-Node n).run ≡ false → net_in (out-Node n).net ≡ Some c → ((i : Ident) → IsBoxedNet c → IsNetAt i c → NetPlaced i c x)
            → NodePlaced n (roll-Node (record (out-Node n) { net = with_net (out-Node n).net x }))
        by_net c x lr e h =
            let o = out-Node n in
            let g = net_held o.net e down.0 (children_front o.id (net_ids o.net) (run_ids o.run) children) in
            let q = below o.id o.net c x e (h o.id g.0 g.1) in
            let m : Node-F NetState Node Run = record o { net = with_net o.net x } in
            let bk = run_apart o.id o.run out_here down.1 (Each-back (IsChild o.id) (net_ids o.net) (run_ids o.run) children.0) lr in
            let site : node_open m ≡ entry ++ (below_net names m.net ++ below_run names o.run) = ap (λ (z : Option NetPart). (o.id, record (item_site names n) { net = z }) ∷ (below_net names m.net ++ below_run names o.run)) q.part in
            record {
              swaps = subst (λ z. Sw z (ents (roll-Node m))) (sym (node_entries_is names n))
                  (subst (λ z. Sw (entry ++ (below_net names o.net ++ below_run names o.run)) z) (sym (node_rolled m ∙ site))
                  (swaps_before id (ents old) (ents w) _ _ entry (out_here, tt) (swaps_after id (ents old) (ents w) _ _ (below_run names o.run) bk q.swaps)));
              same_head = ap (λ (z : Node-F NetState Node Run). (z.id, z.task)) (out-roll-Node m);
              boxed = made_node AtNet AtNode AtRun m (subst (λ z. AreChildren o.id (z ++ run_ids o.run)) (sym q.same_ids) children) q.boxed down.1;
            }
          where
            net_held : (o : Option (Box NetState Global)) → net_in o ≡ Some c → Held IsBoxedNet o → AreChildren (out-Node n).id (net_ids o) → IsBoxedNet c × IsNetAt (out-Node n).id c
            net_held None e b a = nowhere e
            net_held (Some z) e b a = let s : z.value ≡ c = some_same z.value c e in (subst IsBoxedNet s b, subst (IsNetAt (out-Node n).id) s a)

        by_inner : (c x : NetState) → inner_of id n ≡ Some c → ((i : Ident) → IsBoxedNet c → IsNetAt i c → NetPlaced i c x) → NodePlaced n (with_inner id n x)
        by_inner c x e h =
            let o = out-Node n in
            let as_run = roll-Node (record o { run = run_with_net o.run x }) in
            let as_net = roll-Node (record o { net = with_net o.net x }) in
            by_test (run_leads id o.run)
            (λ (u : run_leads id o.run ≡ true). subst (λ (z : Bool). NodePlaced n (cond z as_run as_net)) (sym u)
            (by_run c x u (ap (λ (z : Bool). cond z (net_in_run o.run) (net_in o.net)) (sym u) ∙ e) h))
            (λ (u : run_leads id o.run ≡ false). subst (λ (z : Bool). NodePlaced n (cond z as_run as_net)) (sym u)
            (by_net c x u (ap (λ (z : Bool). cond z (net_in_run o.run) (net_in o.net)) (sym u) ∙ e) h))

      -- ---- at any item that leads there
      at_item : (d : ℕ) → LawNet d → (n : Node) → IsBoxedNode n → leads id n ≡ true → item_below (item_in d id) id n ≡ Some old → NodePlaced n (over_node (placed_in d id w) id w n)
      at_item d law n b l f =
          by_test (same (out-Node n).id id)
          (λ (t : same (out-Node n).id id ≡ true). here n _ (some_same n old (sym (here_found id n (item_in d id) t) ∙ f)) (here_placed id n (placed_in d id w) w t))
          (λ (t : same (out-Node n).id id ≡ false).
          by_option (inner_of id n)
          (λ (e : inner_of id n ≡ None). nowhere (sym (below_none id n t (item_in d id) e) ∙ f))
          (λ (c : NetState) (e : inner_of id n ≡ Some c).
          let g : item_in d id c ≡ Some old = sym (below_found id n t (item_in d id) c e) ∙ f in
          subst (NodePlaced n) (sym (below_placed id n t (placed_in d id w) w c e)) (by_inner n b l t c (placed_in d id w c) e (λ i bc at. law i c bc at g))))

      pub law_net : (d : ℕ) → LawNet d
      law_net zero i s b at f = nowhere f
      law_net (suc d) i s b at f =
          by_option (place_of id s)
          (λ (e : place_of id s ≡ None). nowhere (sym (none_found d id s e) ∙ f))
          (λ (p : ℕ × ℕ) (e : place_of id s ≡ Some p).
          let n = place_there id s p e in
          let l = place_leads id s p n.0 e n.1 in
          let q = in_net s p.0 p.1 n.0 n.1 in
          let bn = each_mid IsBoxedNode q.front n.0 q.back (subst (Each IsBoxedNode) q.whole (below_every_net AtNet AtNode AtRun s b)) in
          let r = at_item d (law_net d) n.0 bn l (sym (found_is d id s p n.0 e n.1) ∙ f) in
          subst (NetPlaced i s) (sym (placed_is d id s p n.0 e n.1 w)) (in_this_net i s p.0 p.1 n.0 _ b at n.1 l r))
