-- The walk down the boxes finds what the walk along their entries finds.
use Rattle.std.proofs.Common.{Bool, List, None, Option, Some, [], ap, arith, cond, false, length, refl, subst, suc, sym, true, zero, ℕ, ◌++◌, ◌+◌, ◌∙◌, ◌∷◌, ◌≡◌, ◌≤◌}
use Rattle.std.proofs.lemmas.Bool.{and_from}
use Rattle.std.specs.FinMap.Entries.{is_sorted}
use Rattle.std.specs.Ordering.{nat_cmp}
use Rattle.std.specs.Prelude.{Box, IsTrue, T, is_some, not, ◌&&◌, ◌||◌}
use Rattle.std.specs.declared.alloc.Global.{Global}
use Rattle.yw_base.specs.Identity.{under, case_number}
use Rattle.yw_sites.proofs.Children.{children_front, others_off}
use Rattle.yw_sites.proofs.Each.{Each-append, Each-back, Each-front, each_mid, each_rest}
use Rattle.yw_sites.proofs.HeldAlong.{GoesDown, IsOff, along_is, any_same, down_before, down_behind, each_of, held_along, held_along-append, held_off, off_goes_down, shields}
use Rattle.yw_sites.proofs.Prefix.{child_length, child_under, not_true, same_true, under_trans}
use Rattle.yw_sites.proofs.Swaps.{lift_keys}
use Rattle.yw_sites.proofs.Unique.{not_above}
use Rattle.yw_sites.specs.Entries.{AllUnder, Entries, Entry}
use Rattle.yw_sites.specs.Idents.{AreChildren, Each, IsChild}
use Rattle.yw_state.proofs.Tests.{by_option, by_test, never}
use Rattle.yw_state.specs.Identity.{Ident, case_ident, same, strictly_under}
use Rattle.yw_state.specs.State.{State}
use Rattle.yw_state.specs.Words.{held, shielded}
use Rattle.yw_tree.proofs.Absent.{by_kids, short}
use Rattle.yw_tree.proofs.Asked.{some_site_is, unique_net}
use Rattle.yw_tree.proofs.Equations.{flat-append, net_entries_is, node_entries_is, run_entries_is}
use Rattle.yw_tree.proofs.ForestLaw.{InCase}
use Rattle.yw_tree.proofs.Halves.{none_leads}
use Rattle.yw_tree.proofs.Induct.{below_every_net, below_every_node, below_every_run}
use Rattle.yw_tree.proofs.Keys.{case_keys, ids_are, kids, kids-append, net_keys, node_keys, run_keys}
use Rattle.yw_tree.proofs.Lift.{none_at}
use Rattle.yw_tree.proofs.Split.{in_net, place_leads, place_there}
use Rattle.yw_tree.proofs.Steps.{levels_are}
use Rattle.yw_tree.proofs.Table.{all, all-append, in_table, number_under, others}
use Rattle.yw_tree.specs.Boxed.{AtNet, AtNode, AtRun, Held, IsBoxedCase, IsBoxedNet, IsBoxedNode, IsBoxedRun, IsNetAt, ids, net_ids, run_ids}
use Rattle.yw_tree.specs.Cases.{CaseList, case_at}
use Rattle.yw_tree.specs.Entries.{below_net, below_run, case_entries, flat, net_entries, node_entries, nodes, run_entries, run_site}
use Rattle.yw_tree.specs.Forest.{IsForest, entries, levels, sites_of}
use Rattle.yw_tree.specs.Holding.{held_below, held_by, held_by_case, held_by_node, held_by_place, held_here, held_in}
use Rattle.yw_tree.specs.Ways.{case_inner, inner_of, leads, net_in, net_in_run, place_of, run_leads}
use Rattle.yw_tree.specs.declared.Case.{Case}
use Rattle.yw_tree.specs.declared.Forest.{Forest}
use Rattle.yw_tree.specs.declared.NetState.{NetState}
use Rattle.yw_tree.specs.declared.Node.{Node, every_here-Node, out-Node}
use Rattle.yw_tree.specs.declared.Run.{Run, every_here-Run, out-Run}

-- each lies strictly under k
strictly_below : (k : Ident) (es : Entries) → AllUnder k es → Each (λ (f : Entry). f.0 ≡ k → ⊥) es → Each (λ (f : Entry). IsTrue (strictly_under f.0 k)) es
strictly_below k [] u n = tt
strictly_below k (e ∷ es) u n = (and_from (under e.0 k) (not (same e.0 k)) u.0 (ap not (not_true (same e.0 k) (λ t. n.0 (same_true e.0 k t)))), strictly_below k es u.1 n.1)

module _ (names : ℕ → List ℕ) (id : Ident) where
  abbrev ents : Node → Entries
  ents = node_entries names

  -- ---- entries that don't lead there
  off_part : (k : Ident) (es : Entries) → under id k ≡ false → AllUnder k es → IsOff id es
  off_part k [] h u = tt
  off_part k (e ∷ es) h u = (not_true (under id e.0) (λ t. never (sym h ∙ under_trans id e.0 k t u.0)), off_part k es h u.1)

  off_list : (ns : List Node) → Each IsBoxedNode ns → Each (λ k. under id k ≡ false) (kids ns) → IsOff id (flat ents ns)
  off_list [] b h = tt
  off_list (n ∷ ns) b h = Each-append (λ (e : Entry). under id e.0 ≡ false) (ents n) (flat ents ns) (off_part (out-Node n).id (ents n) h.0 (node_keys names n b.0)) (off_list ns b.1 h.1)

  off_net : (s : NetState) → IsBoxedNet s → Each (λ k. under id k ≡ false) (ids s) → IsOff id (net_entries names s).1
  off_net s b h = subst (IsOff id) (sym (ap (λ z. z.1) (net_entries_is names s))) (off_list (nodes s) (below_every_net AtNet AtNode AtRun s b) (subst (Each (λ k. under id k ≡ false)) (ids_are s) h))

  off_held : (o : Option (Box NetState Global)) → Held IsBoxedNet o → Each (λ k. under id k ≡ false) (net_ids o) → IsOff id (below_net names o)
  off_held None b h = tt
  off_held (Some x) b h = off_net x.value b h

  off_run : (r : Option (Box Run Global)) → Held IsBoxedRun r → run_leads id r ≡ false → IsOff id (below_run names r)
  off_run None b h = tt
  off_run (Some y) b h = off_part (out-Run y.value).id (run_entries names y.value) h (run_keys names y.value b)

  -- ---- a walk finds what the walk along these entries finds, and they go down to the identity
  record Walks (es : Entries) (walk : Bool → Bool) : Type 0 where
    pub along : (above : Bool) → walk above ≡ held_along id es above
    pub down : GoesDown id es

  abbrev WalkNet : ℕ → Type 0
  WalkNet d = (i : Ident) (s : NetState) → IsBoxedNet s → IsNetAt i s → length id ≤ length i + d → Walks (net_entries names s).1 (held_in d id s)

  stays : (es : Entries) → IsOff id es → Walks es (λ above. above)
  stays es h = record { along = λ above. sym (held_off id es above h); down = off_goes_down id es h }

  of_held : (d : ℕ) → WalkNet d → (i : Ident) (o : Option (Box NetState Global)) → Held IsBoxedNet o → AreChildren i (net_ids o) → length id ≤ length i + d → Walks (below_net names o) (λ above. held_below (held_in d id) above (net_in o))
  of_held d h i None b c l = record { along = λ above. refl; down = tt }
  of_held d h i (Some x) b c l = h i x.value b c l

  -- what is below i lies strictly under it
  pub below_strictly : (i : Ident) (o : Option (Box NetState Global)) → Held IsBoxedNet o → AreChildren i (net_ids o) → Each (λ (f : Entry). IsTrue (strictly_under f.0 i)) (below_net names o)
  below_strictly i None b c = tt
  below_strictly i (Some x) b c = strictly_below i (net_entries names x.value).1 (net_keys names x.value i b c) (unique_net names x.value i b c).1

  pub run_strictly : (i : Ident) (r : Option (Box Run Global)) → Held IsBoxedRun r → Each (IsChild i) (run_ids r) → Each (λ (f : Entry). IsTrue (strictly_under f.0 i)) (below_run names r)
  run_strictly i None b c = tt
  run_strictly i (Some y) b c =
      let keys = run_keys names y.value b in
      strictly_below i (run_entries names y.value) (lift_keys i (out-Run y.value).id (child_under i (out-Run y.value).id c.0) (run_entries names y.value) keys) (not_above i (out-Run y.value).id c.0 (run_entries names y.value) keys)

  always : (k : Ident) (es : Entries) → Each (λ (f : Entry). IsTrue (strictly_under f.0 k)) es → Each (λ (f : Entry). under id f.0 ≡ true → IsTrue (strictly_under f.0 k)) es
  always k [] h = tt
  always k (e ∷ es) h = ((λ u. h.0), always k es h.1)

  -- ---- through a run that leads there: from it on nothing above holds
  of_run : (d : ℕ) → WalkNet d → (i : Ident) (r : Option (Box Run Global)) → Held IsBoxedRun r → Each (IsChild i) (run_ids r) → length id ≤ length i + d → run_leads id r ≡ true → Walks (below_run names r) (λ above. held_below (held_in d id) false (net_in_run r))
  of_run d h i None b c l u = never u
  of_run d h i (Some y) b c l u =
      let o = out-Run y.value in
      let k = child_length i o.id c.0 in
      let deep : length id ≤ length o.id + d = omega arith in
      let here : AreChildren o.id (net_ids o.net) = every_here-Run AtNet AtNode AtRun y.value b in
      let w = of_held d h o.id o.net (below_every_run AtNet AtNode AtRun y.value b) here deep in
      let own : Entry = (o.id, run_site names y.value) in
      record {
        along = λ above.
            w.along false
            ∙ sym (ap (λ es. held_along id es above) (run_entries_is names y.value) ∙ ap (λ z. held_along id (below_net names o.net) (cond z ((not (is_some own.1.run) && above) || own.1.suspended) above)) u);
        down = subst (GoesDown id) (sym (run_entries_is names y.value)) ((λ t. always o.id (below_net names o.net) (below_strictly o.id o.net (below_every_run AtNet AtNode AtRun y.value b) here)), w.down);
      }

  -- ---- through an item that leads there
  of_item : (d : ℕ) → WalkNet d → (n : Node) → IsBoxedNode n → leads id n ≡ true → length id ≤ length (out-Node n).id + d → Walks (ents n) (λ above. held_below (held_in d id) (held_here id above n) (inner_of id n))
  of_item d h n b led l =
      let o = out-Node n in
      let down = below_every_node AtNet AtNode AtRun n b in
      let children : AreChildren o.id (net_ids o.net ++ run_ids o.run) = every_here-Node AtNet AtNode AtRun n b in
      let in_net = children_front o.id (net_ids o.net) (run_ids o.run) children in
      let in_run : Each (IsChild o.id) (run_ids o.run) = Each-back (IsChild o.id) (net_ids o.net) (run_ids o.run) children.0 in
      let nets = below_net names o.net in
      let runs = below_run names o.run in
      let strict = Each-append (λ (f : Entry). IsTrue (strictly_under f.0 o.id)) nets runs (below_strictly o.id o.net down.0 in_net) (run_strictly o.id o.run down.1 in_run) in
      let opened : (above : Bool) → held_along id (ents n) above ≡ held_along id runs (held_along id nets (above || o.suspended)) =
      λ above. ap (λ es. held_along id es above) (node_entries_is names n) ∙ ap (λ z. held_along id (nets ++ runs) (cond z ((true && above) || o.suspended) above)) led ∙ held_along-append id nets runs (above || o.suspended) in
      let walk = λ (z : Bool) (above : Bool). held_below (held_in d id) (cond z false (above || o.suspended)) (cond z (net_in_run o.run) (net_in o.net)) in
      by_test (run_leads id o.run)
      (λ (u : run_leads id o.run ≡ true).
      let off = off_held o.net down.0 (no_child o.run u children) in
      let r = of_run d h o.id o.run down.1 in_run l u in
      record {
        along = λ above.
            ap (λ z. walk z above) u ∙ r.along (above || o.suspended)
            ∙ sym (opened above ∙ ap (held_along id runs) (held_off id nets (above || o.suspended) off));
        down = subst (GoesDown id) (sym (node_entries_is names n)) ((λ t. always o.id (nets ++ runs) strict), down_behind id nets runs off r.down);
      })
      (λ (u : run_leads id o.run ≡ false).
      let off = off_run o.run down.1 u in
      let r = of_held d h o.id o.net down.0 in_net l in
      record {
        along = λ above.
            ap (λ z. walk z above) u ∙ r.along (above || o.suspended)
            ∙ sym (opened above ∙ held_off id runs (held_along id nets (above || o.suspended)) off);
        down = subst (GoesDown id) (sym (node_entries_is names n)) ((λ t. always o.id (nets ++ runs) strict), down_before id nets runs r.down off);
      })
    where
      no_child : (r : Option (Box Run Global)) → run_leads id r ≡ true → AreChildren (out-Node n).id (net_ids (out-Node n).net ++ run_ids r) → Each (λ k. under id k ≡ false) (net_ids (out-Node n).net)
      no_child None u c = never u
      no_child (Some y) u c = (others_off id (out-Node n).id (net_ids (out-Node n).net) (out-Run y.value).id [] c u).0

  -- ---- through a net
  of_net : (d : ℕ) → WalkNet d
  of_net zero i s b a l = stays (net_entries names s).1 (off_net s b (short names id i (omega arith) (ids s) a.0))
  of_net (suc d) i s b a l =
      by_option (place_of id s)
      (λ (p : place_of id s ≡ None).
      let w = stays (net_entries names s).1 (off_net s b (subst (Each (λ k. under id k ≡ false)) (sym (ids_are s)) (by_kids names id (nodes s) (none_leads id i s b a p)))) in
      record { along = λ above. ap (held_by_place (held_in d id) id s above) p ∙ w.along above; down = w.down })
      (λ (p : ℕ × ℕ) (h : place_of id s ≡ Some p).
      let n = place_there id s p h in
      let q = in_net s p.0 p.1 n.0 n.1 in
      let led = place_leads id s p n.0 h n.1 in
      let each = subst (Each IsBoxedNode) q.whole (below_every_net AtNet AtNode AtRun s b) in
      let these : AreChildren i (kids q.front ++ ((out-Node n.0).id ∷ kids q.back)) = subst (AreChildren i) (ids_are s ∙ ap kids q.whole ∙ kids-append q.front (n.0 ∷ q.back)) a in
      let off = others_off id i (kids q.front) (out-Node n.0).id (kids q.back) these led in
      let k = child_length i (out-Node n.0).id (each_mid (IsChild i) (kids q.front) (out-Node n.0).id (kids q.back) these.0) in
      let deep : length id ≤ length (out-Node n.0).id + d = omega arith in
      let w = of_item d (of_net d) n.0 (each_mid IsBoxedNode q.front n.0 q.back each) led deep in
      let front = off_list q.front (Each-front IsBoxedNode q.front (n.0 ∷ q.back) each) off.0 in
      let back = off_list q.back (each_rest IsBoxedNode q.front n.0 q.back each) off.1 in
      let fs = flat ents q.front in
      let bs = flat ents q.back in
      let whole : (net_entries names s).1 ≡ fs ++ (ents n.0 ++ bs) = ap (λ z. z.1) (net_entries_is names s) ∙ ap (flat ents) q.whole ∙ flat-append names q.front (n.0 ∷ q.back) in
      record {
        along = λ above.
            ap (held_by_place (held_in d id) id s above) h ∙ ap (held_by_node (held_in d id) id above) n.1 ∙ w.along above
            ∙ sym (ap (λ es. held_along id es above) whole ∙ held_along-append id fs (ents n.0 ++ bs) above ∙ ap (held_along id (ents n.0 ++ bs)) (held_off id fs above front)
            ∙ held_along-append id (ents n.0) bs above ∙ held_off id bs (held_along id (ents n.0) above) back);
        down = subst (GoesDown id) (sym whole) (down_behind id fs (ents n.0 ++ bs) front (down_before id (ents n.0) bs w.down back));
      })

  -- ---- through a case
  of_case : (c : Case) → IsBoxedCase c → under id c.id ≡ true → length id ≤ length c.id + levels → Walks (case_entries names c) (λ above. held_below (held_in levels id) (cond (run_leads id c.run) false (above || c.suspended)) (case_inner id c))
  of_case c b led l =
      let in_net = children_front c.id (ids c.net) (run_ids c.run) b.here in
      let in_run : Each (IsChild c.id) (run_ids c.run) = Each-back (IsChild c.id) (ids c.net) (run_ids c.run) b.here.0 in
      let nets = (net_entries names c.net).1 in
      let runs = below_run names c.run in
      let net_strict = strictly_below c.id nets (net_keys names c.net c.id b.net in_net) (unique_net names c.net c.id b.net in_net).1 in
      let strict = Each-append (λ (f : Entry). IsTrue (strictly_under f.0 c.id)) nets runs net_strict (run_strictly c.id c.run b.run in_run) in
      let opened : (above : Bool) → held_along id (case_entries names c) above ≡ held_along id runs (held_along id nets (above || c.suspended)) =
      λ above. ap (λ z. held_along id (nets ++ runs) (cond z ((true && above) || c.suspended) above)) led ∙ held_along-append id nets runs (above || c.suspended) in
      let walk = λ (z : Bool) (above : Bool). held_below (held_in levels id) (cond z false (above || c.suspended)) (cond z (net_in_run c.run) (Some c.net)) in
      by_test (run_leads id c.run)
      (λ (u : run_leads id c.run ≡ true).
      let off = off_net c.net b.net (no_child c.run u b.here) in
      let r = of_run levels (of_net levels) c.id c.run b.run in_run l u in
      record {
        along = λ above.
            ap (λ z. walk z above) u ∙ r.along (above || c.suspended)
            ∙ sym (opened above ∙ ap (held_along id runs) (held_off id nets (above || c.suspended) off));
        down = ((λ t. always c.id (nets ++ runs) strict), down_behind id nets runs off r.down);
      })
      (λ (u : run_leads id c.run ≡ false).
      let off = off_run c.run b.run u in
      let r = of_net levels c.id c.net b.net in_net l in
      record {
        along = λ above.
            ap (λ z. walk z above) u ∙ r.along (above || c.suspended)
            ∙ sym (opened above ∙ held_off id runs (held_along id nets (above || c.suspended)) off);
        down = ((λ t. always c.id (nets ++ runs) strict), down_before id nets runs r.down off);
      })
    where
      no_child : (r : Option (Box Run Global)) → run_leads id r ≡ true → AreChildren c.id (ids c.net ++ run_ids r) → Each (λ k. under id k ≡ false) (ids c.net)
      no_child None u a = never u
      no_child (Some y) u a = (others_off id c.id (ids c.net) (out-Run y.value).id [] a u).0

  -- ---- through the whole forest
  abbrev Well : ℕ × Case → Type 0
  Well e = (e.1.id ≡ case_ident e.0) × IsBoxedCase e.1

  off_cases : (n : ℕ) → under id (case_ident n) ≡ true → (cs : CaseList) → Each Well cs → Each (λ (f : ℕ × Case). f.0 ≡ n → ⊥) cs → IsOff id (all names cs)
  off_cases n within [] b o = tt
  off_cases n within (c ∷ cs) b o =
      let off : under id (case_ident c.0) ≡ false = not_true _ (λ t. o.0 (sym (number_under id c.0 t) ∙ number_under id n within)) in
      Each-append (λ (e : Entry). under id e.0 ≡ false) (case_entries names c.1) (all names cs)
      (off_part (case_ident c.0) (case_entries names c.1) off (subst (λ z. AllUnder z (case_entries names c.1)) b.0.0 (case_keys names c.1 b.0.1))) (off_cases n within cs b.1 o.1)

  walks_forest : (f : Forest) → IsForest f → InCase id → length id ≤ 41 → (held_by f id ≡ held_along id (entries names f) false) × GoesDown id (entries names f)
  walks_forest f b within fits =
      let n = case_number id in
      by_option (case_at n f.cases)
      (λ (g : case_at n f.cases ≡ None).
      let off = off_cases n within f.cases b.1 (none_at n f.cases g).1 in
      (ap (held_by_case id) g ∙ sym (held_off id (entries names f) false off), off_goes_down id (entries names f) off))
      (λ (c : Case) (g : case_at n f.cases ≡ Some c).
      let q = in_table n f.cases c g in
      let each = subst (Each Well) q.whole b.1 in
      let o = others q.front (n, c) q.back (subst (λ z. T (is_sorted nat_cmp z)) q.whole b.0) in
      let front = off_cases n within q.front (Each-front Well q.front ((n, c) ∷ q.back) each) o.0 in
      let back = off_cases n within q.back (each_rest Well q.front (n, c) q.back each) o.1 in
      let mid = each_mid Well q.front (n, c) q.back each in
      let led : under id c.id ≡ true = ap (under id) mid.0 ∙ within in
      let one : length c.id ≡ 1 = ap length mid.0 in
      let deep : length id ≤ length c.id + levels = (let l = levels_are in omega arith) in
      let w = of_case c mid.1 led deep in
      let es = case_entries names c in
      let fs = all names q.front in
      let bs = all names q.back in
      let whole : entries names f ≡ fs ++ (es ++ bs) = ap (all names) q.whole ∙ all-append names q.front ((n, c) ∷ q.back) in (
        ap (held_by_case id) g ∙ w.along false
            ∙ sym (ap (λ z. held_along id z false) whole ∙ held_along-append id fs (es ++ bs) false ∙ ap (held_along id (es ++ bs)) (held_off id fs false front)
            ∙ held_along-append id es bs false ∙ held_off id bs (held_along id es false) back),
        subst (GoesDown id) (sym whole) (down_behind id fs (es ++ bs) front (down_before id es bs w.down back)),
      ))

  -- work at the identity is held as the definitions say
  pub held_is : (f : Forest) (s : State) → IsForest f → InCase id → length id ≤ 41 → s.sites ≡ sites_of names f → held_by f id ≡ held s id
  held_is f s b within fits is =
      let w = walks_forest f b within fits in
      let es = entries names f in
      w.0 ∙ along_is id es false w.1
      ∙ any_same (λ (e : Entry). e.1.suspended && under id e.0 && not (shields id es e.0)) (λ (e : Entry). e.1.suspended && under id e.0 && not (shielded s id e.0)) es
      (each_of _ (λ (e : Entry). ap (λ z. e.1.suspended && under id e.0 && not z) (sym (some_site_is names s f (λ r x. is_some x.run && strictly_under r e.0 && under id r) b is))) es)
      ∙ sym (some_site_is names s f (λ i x. x.suspended && under id i && not (shielded s id i)) b is)
