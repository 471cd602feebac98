-- The law of placing over a whole forest.
use Rattle.std.proofs.Common.{Bool, List, None, Option, Some, [], ap, arith, cond, false, length, refl, subst, sym, true, ℕ, ◌++◌, ◌∙◌, ◌∷◌, ◌≡◌, ◌≤◌}
use Rattle.std.specs.FinMap.Entries.{find}
use Rattle.std.specs.Prelude.{Box, option_and_then}
use Rattle.std.specs.declared.alloc.Global.{Global}
use Rattle.yw_base.specs.Identity.{is_identity, under, case_number}
use Rattle.yw_sites.proofs.Children.{children_front, others_off, strictly}
use Rattle.yw_sites.proofs.Each.{Each-back, Each-front, each_mid}
use Rattle.yw_sites.proofs.Prefix.{under_refl}
use Rattle.yw_sites.proofs.Swaps.{else_at, new_at, old_at, swaps_after, swaps_before}
use Rattle.yw_sites.specs.Entries.{Entries, AllUnder, Swaps}
use Rattle.yw_sites.specs.Idents.{AreChildren, Each, IsChild}
use Rattle.yw_state.proofs.MapEntries.{get-of_entries}
use Rattle.yw_state.proofs.MapLemmas.{by_name}
use Rattle.yw_state.proofs.Tests.{by_option, by_test, never, nowhere, some_same, then_some}
use Rattle.yw_state.specs.Identity.{Ident, case_ident}
use Rattle.yw_state.specs.Map.{get, lexical}
use Rattle.yw_state.specs.State.{NetPart}
use Rattle.yw_tree.proofs.Found.{IsFound, boxed_in_run, found}
use Rattle.yw_tree.proofs.Keys.{node_keys}
use Rattle.yw_tree.proofs.Law.{NetPlaced, in_run, law_net, net_apart, run_apart}
use Rattle.yw_tree.proofs.Table.{CasePlaced, in_table, table_placed}
use Rattle.yw_tree.specs.Boxed.{IsBoxedCase, IsBoxedNet, IsBoxedNode, IsNetAt, head, ids, ids_of, run_ids}
use Rattle.yw_tree.specs.Cases.{case_at}
use Rattle.yw_tree.specs.Entries.{below_run, case_entries, case_site, net_entries, node_entries}
use Rattle.yw_tree.specs.Forest.{IsForest, entries, item_of, item_of_case, levels, over_case_inner, item_replaced, item_replaced_at, item_replaced_in_case, sites_of}
use Rattle.yw_tree.specs.Ways.{case_inner, item_in, net_in_run, placed_in, run_leads, run_with_net, with_case_inner}
use Rattle.yw_tree.specs.declared.Case.{Case}
use Rattle.yw_tree.specs.declared.Forest.{Forest}
use Rattle.yw_tree.specs.declared.NetState.{NetState}
use Rattle.yw_tree.specs.declared.Node.{Node}
use Rattle.yw_tree.specs.declared.Run.{Run, out-Run}

-- the identity isn't empty, so it lies under its case
abbrev pub InCase : Ident → Type 0
InCase id = under id (case_ident (case_number id)) ≡ true

pub in_case : (id : Ident) → 1 ≤ length id → InCase id
in_case [] h = absurd (omega arith)
in_case (z ∷ zs) h = under_refl (z ∷ [])

module _ (names : ℕ → List ℕ) (id : Ident) (w old : Node) (head_is : head w ≡ head old) (w_boxed : IsBoxedNode w) where
  abbrev ents : Node → Entries
  ents = node_entries names

  module _ (n : ℕ) (within : under id (case_ident n) ≡ true) (c : Case) (b : IsBoxedCase c) where
    abbrev Goes : Case → Type 0
    Goes d = CasePlaced names id n within (ents old) (ents w) c d

    abbrev entry : Entries
    entry = (c.id, case_site names c) ∷ []

    -- through its run
    by_run : (s x : NetState) → run_leads id c.run ≡ true → net_in_run c.run ≡ Some s → ((i : Ident) → IsBoxedNet s → IsNetAt i s → NetPlaced names id w old i s x) → Goes (record c { run = run_with_net c.run x })
    by_run s x lr e h =
        let q = in_run names id w old head_is w_boxed c.run s x b.run e h in
        let off = off_by c.run lr b.here in
        let fr = net_apart names id w old head_is w_boxed c.id c.net off.0 b.net (Each-front (IsChild c.id) (ids c.net) (run_ids c.run) b.here.0) off.1 in
        record {
          swaps = swaps_before id (ents old) (ents w) _ _ entry (off.0, tt) (swaps_before id (ents old) (ents w) _ _ (net_entries names c.net).1 fr q.swaps);
          same_id = refl;
          boxed = record { here = subst (λ z. AreChildren c.id (ids c.net ++ z)) (sym q.same_ids) b.here; net = b.net; run = q.boxed };
        }
      where
        off_by : (r : Option (Box Run Global)) → run_leads id r ≡ true → AreChildren c.id (ids c.net ++ run_ids r) → (under c.id id ≡ false) × Each (λ k. under id k ≡ false) (ids c.net)
        off_by None lr a = never lr
        off_by (Some y) lr a = (strictly id c.id (out-Run y.value).id (each_mid (IsChild c.id) (ids c.net) (out-Run y.value).id [] a.0) lr, (others_off id c.id (ids c.net) (out-Run y.value).id [] a lr).0)

    -- through its net
    by_net : (x : NetState) → run_leads id c.run ≡ false → NetPlaced names id w old c.id c.net x → Goes (record c { net = x })
    by_net x lr q =
        let bk = run_apart names id w old head_is w_boxed c.id c.run q.strict b.run (Each-back (IsChild c.id) (ids c.net) (run_ids c.run) b.here.0) lr in
        let site : case_entries names (record c { net = x }) ≡ entry ++ ((net_entries names x).1 ++ below_run names c.run) = ap (λ (z : NetPart). (c.id, record (case_site names c) { net = Some z }) ∷ ((net_entries names x).1 ++ below_run names c.run)) q.part in
        record {
          swaps = subst (λ z. Swaps id (ents old) (ents w) (case_entries names c) z) (sym site)
              (swaps_before id (ents old) (ents w) _ _ entry (q.strict, tt) (swaps_after id (ents old) (ents w) _ _ (below_run names c.run) bk q.swaps));
          same_id = refl;
          boxed = record { here = subst (λ z. AreChildren c.id (z ++ run_ids c.run)) (sym (ap ids_of q.same_heads)) b.here; net = q.boxed; run = b.run };
        }

    of_case : (s : NetState) → case_inner id c ≡ Some s → item_in levels id s ≡ Some old → Goes (with_case_inner id c (placed_in levels id w s))
    of_case s e f =
        let x = placed_in levels id w s in
        let law = law_net names id w old head_is w_boxed levels in
        by_test (run_leads id c.run)
        (λ (u : run_leads id c.run ≡ true). subst (λ (z : Bool). Goes (cond z (record c { run = run_with_net c.run x }) (record c { net = x }))) (sym u)
        (by_run s x u (ap (λ (z : Bool). cond z (net_in_run c.run) (Some c.net)) (sym u) ∙ e) (λ i bs at. law i s bs at f)))
        (λ (u : run_leads id c.run ≡ false).
        let g : c.net ≡ s = some_same c.net s (ap (λ (z : Bool). cond z (net_in_run c.run) (Some c.net)) (sym u) ∙ e) in
        subst (λ (z : Bool). Goes (cond z (record c { run = run_with_net c.run x }) (record c { net = x }))) (sym u)
        (by_net x u (subst (λ z. NetPlaced names id w old c.id z x) (sym g) (law c.id s (subst IsBoxedNet g b.net) (subst (IsNetAt c.id) g (children_front c.id (ids c.net) (run_ids c.run) b.here)) f))))

    pub case_law : item_of_case id c ≡ Some old → Goes (item_replaced_in_case id w c)
    case_law f =
        by_option (case_inner id c)
        (λ (e : case_inner id c ≡ None). nowhere (sym (ap (option_and_then (item_in levels id)) e) ∙ f))
        (λ (s : NetState) (e : case_inner id c ≡ Some s).
        subst Goes (sym (ap (over_case_inner id w c) e)) (of_case s e (sym (ap (option_and_then (item_in levels id)) e) ∙ f)))

  -- ---- over the whole forest
  pub forest_law : (f : Forest) → IsForest f → InCase id → item_of f id ≡ Some old
      → Swaps id (ents old) (ents w) (entries names f) (entries names (item_replaced f id w)) × IsForest (item_replaced f id w)
  forest_law f b within e =
      let n = case_number id in
      let r = then_some (item_of_case id) (case_at n f.cases) old e in
      let p = table_placed names id n within (ents old) (ents w) f.cases r.0 (item_replaced_in_case id w r.0) b r.1 (λ bc. case_law n within r.0 bc r.2) in
      subst (λ (z : Forest). Swaps id (ents old) (ents w) (entries names f) (entries names z) × IsForest z) (sym (ap (item_replaced_at f id w) r.1)) p

pub item_found : (f : Forest) (id : Ident) (old : Node) → IsForest f → item_of f id ≡ Some old → IsFound id old
item_found f id old b e =
    let r = then_some (item_of_case id) (case_at (case_number id) f.cases) old e in
    let t = in_table (case_number id) f.cases r.0 r.1 in
    let bc = (each_mid (λ (e : ℕ × Case). (e.1.id ≡ case_ident e.0) × IsBoxedCase e.1) t.front (case_number id, r.0) t.back (subst (Each (λ (e : ℕ × Case). (e.1.id ≡ case_ident e.0) × IsBoxedCase e.1)) t.whole b.1)).1 in
    let s = then_some (item_in levels id) (case_inner id r.0) old r.2 in
    found id old levels s.0 (inner_boxed r.0 bc s.0 s.1) s.2
  where
    inner_boxed : (c : Case) → IsBoxedCase c → (s : NetState) → case_inner id c ≡ Some s → IsBoxedNet s
    inner_boxed c bc s e =
        by_test (run_leads id c.run)
        (λ (u : run_leads id c.run ≡ true). boxed_in_run c.run s bc.run (ap (λ (z : Bool). cond z (net_in_run c.run) (Some c.net)) (sym u) ∙ e))
        (λ (u : run_leads id c.run ≡ false). subst IsBoxedNet (some_same c.net s (ap (λ (z : Bool). cond z (net_in_run c.run) (Some c.net)) (sym u) ∙ e)) bc.net)

-- ---- the law on the flat map: under the identity what the item says, elsewhere what was
pub record PlacedAt (names : ℕ → List ℕ) (f : Forest) (id : Ident) (old w : Node) (g : Forest) : Type 0 where
  pub stood : (q : Ident) → under q id ≡ true → get (sites_of names f) q ≡ find lexical q (node_entries names old)
  pub stands : (q : Ident) → under q id ≡ true → get (sites_of names g) q ≡ find lexical q (node_entries names w)
  pub elsewhere : (q : Ident) → under q id ≡ false → get (sites_of names g) q ≡ get (sites_of names f) q
  pub boxed : IsForest g

pub placed_law : (names : ℕ → List ℕ) (f : Forest) (id : Ident) (old w : Node) → IsForest f → InCase id → item_of f id ≡ Some old → head w ≡ head old → IsBoxedNode w → PlacedAt names f id old w (item_replaced f id w)
placed_law names f id old w b within e h wb =
    let g = item_found f id old b e in
    let p = forest_law names id w old h wb f b within e in
    let look : (k : Forest) (q : Ident) → get (sites_of names k) q ≡ find lexical q (entries names k) = λ k q. get-of_entries by_name (entries names k) q in
    let keys_old = subst (λ z. AllUnder z (node_entries names old)) g.0 (node_keys names old g.1) in
    let keys_new = subst (λ z. AllUnder z (node_entries names w)) (ap (λ z. z.0) h ∙ g.0) (node_keys names w wb) in
    record {
      stood = λ q u. look f q ∙ old_at id _ _ _ _ p.0 q u;
      stands = λ q u. look (item_replaced f id w) q ∙ new_at id _ _ _ _ p.0 q u;
      elsewhere = λ q u. look (item_replaced f id w) q ∙ else_at id _ _ _ _ p.0 q keys_old keys_new u ∙ sym (look f q);
      boxed = p.1;
    }

pub identity_in_case : (id : Ident) → is_identity id ≡ true → InCase id
identity_in_case [] h = never h
identity_in_case (z ∷ zs) h = under_refl (z ∷ [])
