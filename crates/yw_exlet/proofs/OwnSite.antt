-- Where an item, a case or a run keeps all but what is said of itself, the map is changed at its identity alone.
use Rattle.std.specs.Prelude.{◌≡◌, ◌≤◌, ◌<◌, IsSome, IsTrue, get_or, ℕ, ◌∷◌, [], Bool, true, false, List, None, Option, Some, if◌then◌else◌, length, not, option_map}
use Rattle.std.proofs.Common.{◌∙◌, ap, arith, refl, subst, sym}
use Rattle.std.proofs.lemmas.Bool.{and_from}
use Rattle.std.proofs.lemmas.Slice.Eq.{bytes_eq-Decides}
use Rattle.yw_base.specs.Identity.{case_number, is_identity, under}
use Rattle.yw_exlet.specs.Changes.{Continues, Changes, Passes, Suspends, marked, passed, written}
use Rattle.yw_exlet.specs.Takes.{anew, cut_short, select_due}
use Rattle.yw_exlet.specs.Written.{case_written, item_written}
use Rattle.yw_exlet.specs.declared.own.Own.{Own}
use Rattle.yw_exlet.specs.declared.own.Own.TheVariants as own
use Rattle.yw_sites.proofs.Parts.{below_was, own_changes}
use Rattle.yw_sites.proofs.Prefix.{under_refl}
use Rattle.yw_sites.specs.Entries.{AllUnder, Swaps}
use Rattle.yw_state.proofs.MapLemmas.{by_name, get-remove_other, get-remove_same, get-retain_gone, get-retain_kept, same_map}
use Rattle.yw_state.proofs.Tests.{by_test, never, nowhere}
use Rattle.yw_state.specs.After.{with_run, with_sites}
use Rattle.yw_state.specs.Events.{after}
use Rattle.yw_state.specs.Identity.{Ident, case_ident, is_case_ident, same, strictly_under}
use Rattle.yw_state.specs.Map.{get, remove, update}
use Rattle.yw_state.specs.State.{RunPart, Site, drop, no_checks}
use Rattle.yw_state.specs.Values.{Row}
use Rattle.yw_state.specs.declared.part.Stage.TheVariants.{Completed, Ready}
use Rattle.yw_state.specs.declared.tree.TreeKind.{TreeKind}
use Rattle.yw_tree.proofs.CaseLaw.{case_own, its, placing}
use Rattle.yw_tree.proofs.Equations.{run_entries_is}
use Rattle.yw_tree.proofs.ForestLaw.{identity_in_case}
use Rattle.yw_tree.proofs.Induct.{below_every_run}
use Rattle.yw_tree.proofs.Keys.{run_keys}
use Rattle.yw_tree.proofs.Made.{made_run}
use Rattle.yw_tree.proofs.NetLaw.{site_open}
use Rattle.yw_tree.proofs.OwnChange.{own_changed}
use Rattle.yw_tree.proofs.RunLaw.{run_found, run_placed}
use Rattle.yw_tree.specs.Boxed.{AtNet, AtNode, AtRun, IsBoxedCase, IsBoxedRun}
use Rattle.yw_tree.specs.Coming.{TargetStands}
use Rattle.yw_tree.specs.Cases.{case_at, with_case}
use Rattle.yw_tree.specs.Entries.{below_net, item_site, net_part_of, run_entries, run_site}
use Rattle.yw_tree.specs.Forest.{IsForest, entries, item_of, item_replaced, sites_of}
use Rattle.yw_tree.specs.Places.{Keeps, placed_run, run_of}
use Rattle.yw_tree.specs.Spots.{Part, a_case, a_run, an_item, item_or_run, part_at}
use Rattle.yw_tree.specs.declared.Case.{Case}
use Rattle.yw_tree.specs.declared.Forest.{Forest}
use Rattle.yw_tree.specs.declared.NetState.{NetState}
use Rattle.yw_tree.specs.declared.Node.{Node, Node-F, out-Node}
use Rattle.yw_tree.specs.declared.Run.{Run, Run-F, every_here-Run, out-Run, roll-Run, roll-out-Run}

abbrev Level : Type 0
Level = Node-F NetState Node Run

abbrev RunLevel : Type 0
RunLevel = Run-F NetState Node Run

pub is_same : (k j : Ident) → same k j ≡ true → k ≡ j
is_same k j here = (bytes_eq-Decides k j).0 here

pub apart : (k j : Ident) → same k j ≡ false → k ≡ j → ⊥
apart k j other e = never (sym other ∙ (bytes_eq-Decides k j).1 e)

-- ---- an item

module _ (f : Forest) (j : Ident) (old w : Node) (boxed : IsForest f) (identity : is_identity j ≡ true) (found : item_of f j ≡ Some old) where
  abbrev ItemBecomes : (Site → Site) → Type 0
  ItemBecomes h = ((names : ℕ → List ℕ) → sites_of names (item_replaced f j w) ≡ update (sites_of names f) j h) × IsForest (item_replaced f j w)

  changed : (h : Site → Site) → Keeps old w → ((names : ℕ → List ℕ) → item_site names w ≡ h (item_site names old)) → ItemBecomes h
  changed h keeps says =
      let r = own_changed f j old w boxed (identity_in_case j identity) found keeps in
      (λ names. r.0 names h (says names), r.1)

  pub item_becomes : (o : Own) → out-Node w ≡ item_written o (out-Node old) → ItemBecomes (written o)
  item_becomes (own.Suspended b) is = changed (marked b)
      (record { id = ap (λ (z : Level). z.id) is; task = ap (λ (z : Level). z.task) is; net = ap (λ (z : Level). z.net) is; run = ap (λ (z : Level). z.run) is })
      (λ names. ap (site_open names) is)
  item_becomes (own.Passed kind) is = changed (passed kind)
      (record { id = ap (λ (z : Level). z.id) is; task = ap (λ (z : Level). z.task) is; net = ap (λ (z : Level). z.net) is; run = ap (λ (z : Level). z.run) is })
      (λ names. ap (site_open names) is)

  pub made_anew : (due : Bool) → out-Node w ≡ record (out-Node old) { stage = Ready; who = None; made = []; due = select_due due } → ItemBecomes (anew due)
  made_anew due is = changed (anew due)
      (record { id = ap (λ (z : Level). z.id) is; task = ap (λ (z : Level). z.task) is; net = ap (λ (z : Level). z.net) is; run = ap (λ (z : Level). z.run) is })
      (λ names. ap (site_open names) is)

  pub made_short : (made : Row) → out-Node w ≡ record (out-Node old) { stage = Completed; made = made; due = no_checks } → ItemBecomes (cut_short made)
  made_short made is = changed (cut_short made)
      (record { id = ap (λ (z : Level). z.id) is; task = ap (λ (z : Level). z.task) is; net = ap (λ (z : Level). z.net) is; run = ap (λ (z : Level). z.run) is })
      (λ names. ap (site_open names) is)

-- ---- a case

module _ (f : Forest) (boxed : IsForest f) (n : ℕ) (c : Case) (found : case_at n f.cases ≡ Some c) where
  abbrev pub CaseBecomes : Case → (Site → Site) → Type 0
  CaseBecomes d h = ((names : ℕ → List ℕ) → sites_of names (record { cases = with_case n f.cases d }) ≡ update (sites_of names f) (case_ident n) h)
      × IsForest (record { cases = with_case n f.cases d })

  pub case_becomes : (o : Own) → CaseBecomes (case_written o c) (written o)
  case_becomes (own.Suspended b) =
      let d : Case = record c { suspended = b } in
      let w = (its (λ k. []) f boxed n c found).1 in
      let d_boxed : IsBoxedCase d = record { here = w.here; net = w.net; run = w.run } in
      (λ names. case_own names f boxed n c found d refl d_boxed (marked b) refl refl, (placing (λ k. []) f boxed n c found d refl d_boxed).1)
  case_becomes (own.Passed kind) =
      let d : Case = case_written (own.Passed kind) c in
      let w = (its (λ k. []) f boxed n c found).1 in
      let d_boxed : IsBoxedCase d = record { here = w.here; net = w.net; run = w.run } in
      (λ names. case_own names f boxed n c found d refl d_boxed (passed kind) refl refl, (placing (λ k. []) f boxed n c found d refl d_boxed).1)

-- ---- a run

abbrev pub part_of_run : Run → RunPart
part_of_run r = record { rest = (out-Run r).rest; waiting = (out-Run r).waiting }

module _ (f : Forest) (b : IsForest f) (id : Ident) (long : 1 ≤ length id) (r w : Run) (e : run_of f id ≡ Some r) (h : RunPart → RunPart) (is : out-Run w ≡ record (out-Run r) { rest = (h (part_of_run r)).rest; waiting = (h (part_of_run r)).waiting }) where
  found : ((out-Run r).id ≡ id) × IsBoxedRun r
  found = run_found f id r b e

  run_boxed : IsBoxedRun w
  run_boxed =
      let l : RunLevel = record (out-Run r) { rest = (h (part_of_run r)).rest; waiting = (h (part_of_run r)).waiting } in
      subst IsBoxedRun (sym (ap roll-Run is) ∙ roll-out-Run w) (made_run AtNet AtNode AtRun l (every_here-Run AtNet AtNode AtRun r found.1) (below_every_run AtNet AtNode AtRun r found.1))

  same_id : (out-Run w).id ≡ (out-Run r).id
  same_id = ap (λ (z : RunLevel). z.id) is

  keys_below : (names : ℕ → List ℕ) (k : Run) → IsBoxedRun k → (out-Run k).id ≡ id → AllUnder id (below_net names (out-Run k).net)
  keys_below names k kb same = subst (λ z. AllUnder z (below_net names (out-Run k).net)) same (subst (AllUnder (out-Run k).id) (run_entries_is names k) (run_keys names k kb)).1

  abbrev run_open : (ℕ → List ℕ) → RunLevel → Site
  run_open names l = record { net = net_part_of names l.net; item = None; run = Some (record { rest = l.rest; waiting = l.waiting }); suspended = false; due = no_checks }

  pub run_changed : ((names : ℕ → List ℕ) → sites_of names (placed_run f id w) ≡ update (sites_of names f) id (with_run h)) × IsForest (placed_run f id w)
  run_changed = (
    λ names.
        let p = run_placed names f b id long r w e same_id run_boxed in
        let g : Forest = placed_run f id w in
        let first : run_entries names r ≡ (id, run_site names r) ∷ below_net names (out-Run r).net = run_entries_is names r ∙ ap (λ z. (z, run_site names r) ∷ below_net names (out-Run r).net) found.0 in
        let second : run_entries names w ≡ (id, run_site names w) ∷ below_net names (out-Run w).net = run_entries_is names w ∙ ap (λ z. (z, run_site names w) ∷ below_net names (out-Run w).net) (same_id ∙ found.0) in
        let s = subst (λ z. Swaps id z ((id, run_site names w) ∷ below_net names (out-Run w).net) (entries names f) (entries names g)) first (subst (λ z. Swaps id (run_entries names r) z (entries names f) (entries names g)) second p.0) in
        own_changes id (run_site names r) (run_site names w) (below_net names (out-Run r).net) (below_net names (out-Run w).net) (entries names f) (entries names g) s (keys_below names r found.1 found.0) (keys_below names w run_boxed (same_id ∙ found.0))
        (with_run h) (ap (λ (z : RunLevel). below_net names z.net) is) (ap (run_open names) is),
    (run_placed (λ k. []) f b id long r w e same_id run_boxed).1,
  )

-- ---- the events

module _ (j : Ident) (old new : Forest) (boxed : IsForest new) where
  pub suspended : Changes old new j (marked true) → Suspends j old new
  unfolding after
  suspended sites = record {
    leads = λ names s said here needs. ap (λ m. with_sites s (update m j (marked true))) here ∙ ap (with_sites s) (sym (sites names));
    boxed = boxed;
  }

  pub continued : Changes old new j (marked false) → Continues j old new
  unfolding after
  continued sites = record {
    leads = λ names s said here needs. ap (λ m. with_sites s (update m j (marked false))) here ∙ ap (with_sites s) (sym (sites names));
    boxed = boxed;
  }

  pub let_pass : (kind : TreeKind) → Changes old new j (passed kind) → Passes j kind old new
  unfolding after
  let_pass kind sites = record {
    leads = λ names s said here needs. ap (λ m. with_sites s (update m j (passed kind))) here ∙ ap (with_sites s) (sym (sites names));
    boxed = boxed;
  }

-- a case of one number
pub case_there : (f : Forest) (j : Ident) → 1 ≤ length j → length j < 2 → TargetStands f j → IsSome (case_at (get_or j 0 0) f.cases)
case_there f [] least most there_is = absurd (omega (arith, least))
case_there f (n ∷ []) least most there_is = there_is
case_there f (n ∷ m ∷ j) least most there_is = absurd (omega (arith, most))

-- ---- a run that goes

-- what is found there is a run
pub run_is : (f : Forest) (id : Ident) (r : Run) → part_at f id ≡ Some (a_run r) → IsSome (run_of f id)
run_is f id r found = by_test (is_case_ident id)
    (λ case. not_case (case_at (case_number id) f.cases) (sym (ap (λ b. if b then option_map a_case (case_at (case_number id) f.cases) else item_or_run (item_of f id) (run_of f id)) case) ∙ found))
    (λ other. by_item (item_of f id) (run_of f id) (sym (ap (λ b. if b then option_map a_case (case_at (case_number id) f.cases) else item_or_run (item_of f id) (run_of f id)) other) ∙ found))
  where
    is_run : Option Part → Bool
    is_run None = false
    is_run (Some (a_case c)) = false
    is_run (Some (an_item n)) = false
    is_run (Some (a_run r)) = true

    not_case : (o : Option Case) → option_map a_case o ≡ Some (a_run r) → IsSome (run_of f id)
    not_case None e = nowhere e
    not_case (Some c) e = never (ap is_run e)

    by_item : (o : Option Node) (u : Option Run) → item_or_run o u ≡ Some (a_run r) → IsSome u
    by_item None None e = nowhere e
    by_item None (Some u) e = refl
    by_item (Some n) u e = never (ap is_run e)

module _ (names : ℕ → List ℕ) (f : Forest) (b : IsForest f) (id : Ident) (long : 1 ≤ length id) (r : Run) (e : run_of f id ≡ Some r) (alone : (out-Run r).net ≡ None) where
  its_own : ((out-Run r).id ≡ id) × IsBoxedRun r
  its_own = run_found f id r b e

  -- nothing stands under it
  none_below : (q : Ident) → IsTrue (strictly_under q id) → get (sites_of names f) q ≡ None
  none_below q lies =
      let p = run_placed names f b id long r r e refl its_own.1 in
      let first : run_entries names r ≡ (id, run_site names r) ∷ [] = run_entries_is names r ∙ ap (λ z. (z, run_site names r) ∷ below_net names (out-Run r).net) its_own.0 ∙ ap (λ z. (id, run_site names r) ∷ below_net names z) alone in
      let s = subst (λ z. Swaps id z ((id, run_site names r) ∷ []) (entries names f) (entries names (placed_run f id r))) first (subst (λ z. Swaps id (run_entries names r) z (entries names f) (entries names (placed_run f id r))) first p.0) in
      below_was id (run_site names r) (run_site names r) [] [] (entries names f) (entries names (placed_run f id r)) s tt tt q lies

  pub dropped : drop (sites_of names f) id ≡ remove (sites_of names f) id
  dropped = same_map by_name _ _ (λ q.
      by_test (under q id)
      (λ lies. get-drop_under q lies ∙ sym (by_test (same q id)
      (λ here. ap (get (remove (sites_of names f) id)) (is_same q id here) ∙ get-remove_same by_name (sites_of names f) id)
      (λ other. get-remove_other by_name (sites_of names f) id q (apart q id other) ∙ none_below q (and_from (under q id) _ lies (ap not other)))))
      (λ out. get-retain_kept by_name (sites_of names f) _ q (ap not out)
      ∙ sym (get-remove_other by_name (sites_of names f) id q (λ here. never (sym out ∙ ap (λ z. under z id) here ∙ under_refl id)))))
    where
      get-drop_under : (q : Ident) → under q id ≡ true → get (drop (sites_of names f) id) q ≡ None
      get-drop_under q lies = get-retain_gone by_name (sites_of names f) _ q (ap not lies)
