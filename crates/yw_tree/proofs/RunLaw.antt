-- A run in place of another, or none in its place: what the whole forest then means. A run stands at a case or at an item.
use Rattle.std.proofs.Common.{◌≡◌, ◌≤◌, ℕ, true, refl, length, Option, Some, None, List, [], ◌∷◌, ◌++◌, ap, subst, sym, ◌∙◌}
use Rattle.std.specs.Prelude.{Box}
use Rattle.std.specs.declared.alloc.Global.{Global}
use Rattle.yw_base.specs.Identity.{under, case_number, parent}
use Rattle.yw_sites.specs.Entries.{AllUnder, Entries, NoneUnder, Swaps}
use Rattle.yw_sites.specs.Idents.{AreChildren, IsChild}
use Rattle.yw_sites.proofs.Children.{strictly}
use Rattle.yw_sites.proofs.Each.{Each-back}
use Rattle.yw_sites.proofs.Prefix.{child_under, same_true, under_refl}
use Rattle.yw_sites.proofs.Swaps.{swaps_whole, swaps_within}
use Rattle.yw_state.specs.Identity.{Ident, case_ident}
use Rattle.yw_state.proofs.Tests.{nowhere, some_same}
use Rattle.yw_tree.specs.Boxed.{AtNet, AtNode, AtRun, Held, IsBoxedCase, IsBoxedNode, IsBoxedRun, ids, net_ids, run_ids}
use Rattle.yw_tree.specs.Cases.{case_at}
use Rattle.yw_tree.specs.Entries.{below_net, below_run, case_entries, case_site, item_site, net_entries, node_entries, run_entries, run_site}
use Rattle.yw_tree.specs.Forest.{IsForest, entries, item_of, item_replaced}
use Rattle.yw_tree.specs.Places.{over_case_run, over_item_run, placed_case, placed_run, run_at, run_of}
use Rattle.yw_tree.specs.Ways.{run_in, with_run}
use Rattle.yw_tree.specs.declared.Case.{Case}
use Rattle.yw_tree.specs.declared.Forest.{Forest}
use Rattle.yw_tree.specs.declared.NetState.{NetState}
use Rattle.yw_tree.specs.declared.Node.{Node, Node-F, out-Node, roll-Node, out-roll-Node, every_here-Node}
use Rattle.yw_tree.specs.declared.Run.{Run, out-Run}
use Rattle.yw_tree.proofs.Asked.{held_off, net_off}
use Rattle.yw_tree.proofs.CaseLaw.{its}
use Rattle.yw_tree.proofs.Equations.{node_entries_is, run_entries_is}
use Rattle.yw_tree.proofs.ForestLaw.{InCase, forest_law, in_case, item_found}
use Rattle.yw_tree.proofs.Induct.{below_every_node}
use Rattle.yw_tree.proofs.Keys.{run_keys}
use Rattle.yw_tree.proofs.Made.{made_node}
use Rattle.yw_tree.proofs.NetLaw.{site_open}
use Rattle.yw_tree.proofs.Parents.{parent_there}
use Rattle.yw_tree.proofs.RunBack.{by_host, run_here}
use Rattle.yw_tree.proofs.RunFound.{placed_in_its_case, placed_in_its_item}
use Rattle.yw_tree.proofs.Table.{table_placed}

abbrev Level : Type 0
Level = Node-F NetState Node Run

-- ---- what may hang at a case or an item

has_its_id : (id : Ident) (o : Option (Box Run Global)) (r : Run) → run_at id o ≡ Some r → (out-Run r).id ≡ id
has_its_id id None r e = nowhere e
has_its_id id (Some b) r e =
    let o : Option (Box Run Global) = Some b in
    let h = run_here id o r e in
    ap (λ (z : Run). (out-Run z).id) (sym (some_same b.value r h.1)) ∙ same_true (out-Run b.value).id id h.0

pub ids_hung : (o : Option (Box Run Global)) (r : Run) → run_in o ≡ Some r → run_ids o ≡ (out-Run r).id ∷ []
ids_hung None r e = nowhere e
ids_hung (Some b) r e = ap (λ (z : Run). (out-Run z).id ∷ []) (some_same b.value r e)

pub boxed_hung : (o : Option (Box Run Global)) (r : Run) → run_in o ≡ Some r → Held IsBoxedRun o → IsBoxedRun r
boxed_hung None r e h = nowhere e
boxed_hung (Some b) r e h = subst IsBoxedRun (some_same b.value r e) h

pub below_hung : (names : ℕ → List ℕ) (o : Option (Box Run Global)) (r : Run) → run_in o ≡ Some r → below_run names o ≡ run_entries names r
below_hung names None r e = nowhere e
below_hung names (Some b) r e = ap (run_entries names) (some_same b.value r e)

-- another in its place
record Rehung (o : Option (Box Run Global)) (w : Run) : Type 0 where
  pub boxed : Held IsBoxedRun (with_run o w)
  pub same_ids : run_ids (with_run o w) ≡ (out-Run w).id ∷ []
  pub below : (names : ℕ → List ℕ) → below_run names (with_run o w) ≡ run_entries names w

rehung : (o : Option (Box Run Global)) (r w : Run) → run_in o ≡ Some r → IsBoxedRun w → Rehung o w
rehung None r w e b = nowhere e
rehung (Some x) r w e b = record { boxed = b; same_ids = refl; below = λ names. refl }

module _ (names : ℕ → List ℕ) (f : Forest) (b : IsForest f) (id : Ident) (r : Run) (u : Option (Box Run Global)) (ub : Held IsBoxedRun u) where
  -- ---- at an item
  module _ (p : Ident) (within : InCase p) (n : Node) (e : item_of f p ≡ Some n) (h : run_at id (out-Node n).run ≡ Some r) (fits : AreChildren p (net_ids (out-Node n).net ++ run_ids u)) where
    abbrev level : Level
    level = record (out-Node n) { run = u }

    abbrev pub at_item : Node
    at_item = roll-Node (record (out-Node n) { run = u })

    pub item_host : Swaps id (run_entries names r) (below_run names u) (entries names f) (entries names (item_replaced f p (roll-Node (record (out-Node n) { run = u })))) × IsForest (item_replaced f p (roll-Node (record (out-Node n) { run = u })))
    item_host =
        let g = item_found f p n b e in
        let l = out-Node n in
        let m : Level = level in
        let down = below_every_node AtNet AtNode AtRun n g.1 in
        let children : AreChildren l.id (net_ids l.net ++ run_ids l.run) = every_here-Node AtNet AtNode AtRun n g.1 in
        let hung = (run_here id l.run r h).1 in
        let its_id = has_its_id id l.run r h in
        let here : AreChildren l.id (net_ids l.net ++ ((out-Run r).id ∷ [])) = subst (λ z. AreChildren l.id (net_ids l.net ++ z)) (ids_hung l.run r hung) children in
        let child : IsChild l.id (out-Run r).id = (Each-back (IsChild l.id) (net_ids l.net) ((out-Run r).id ∷ []) here.0).0 in
        let wb : IsBoxedNode (roll-Node m) = made_node AtNet AtNode AtRun m (subst (λ z. AreChildren z (net_ids l.net ++ run_ids u)) (sym g.0) fits) down.0 ub in
        let law = forest_law names p (roll-Node m) n (ap (λ (z : Level). (z.id, z.task)) (out-roll-Node m)) wb f b within e in
        let xs : Entries = (l.id, item_site names n) ∷ below_net names l.net in
        let first : node_entries names n ≡ xs ++ run_entries names r = node_entries_is names n ∙ ap (λ z. (l.id, item_site names n) ∷ (below_net names l.net ++ z)) (below_hung names l.run r hung) in
        let second : node_entries names (roll-Node m) ≡ xs ++ below_run names u =
        node_entries_is names (roll-Node m) ∙ ap (λ (z : Level). (z.id, site_open names z) ∷ (below_net names z.net ++ below_run names z.run)) (out-roll-Node m) in
        let off : NoneUnder (out-Run r).id xs = (strictly (out-Run r).id l.id (out-Run r).id child (under_refl (out-Run r).id), held_off names l.id l.net down.0 (out-Run r).id child here) in
        let above : under id p ≡ true = subst (λ z. under z p ≡ true) its_id (subst (λ z. under (out-Run r).id z ≡ true) g.0 (child_under l.id (out-Run r).id child)) in (
          swaps_within p id above xs (run_entries names r) (below_run names u) _ _ (subst (λ z. NoneUnder z xs) its_id off)
              (subst (λ z. Swaps p z (xs ++ below_run names u) (entries names f) (entries names (item_replaced f p (roll-Node m)))) first
              (subst (λ z. Swaps p (node_entries names n) z (entries names f) (entries names (item_replaced f p (roll-Node m)))) second law.0)),
          law.1,
        )

  -- ---- at a case
  module _ (n : ℕ) (c : Case) (e : case_at n f.cases ≡ Some c) (h : run_at id c.run ≡ Some r) (fits : AreChildren c.id (ids c.net ++ run_ids u)) where
    pub case_host : Swaps id (run_entries names r) (below_run names u) (entries names f) (entries names (placed_case f n (record c { run = u }))) × IsForest (placed_case f n (record c { run = u }))
    case_host =
        let i = its names f b n c e in
        let d : Case = record c { run = u } in
        let hung = (run_here id c.run r h).1 in
        let its_id = has_its_id id c.run r h in
        let here : AreChildren c.id (ids c.net ++ ((out-Run r).id ∷ [])) = subst (λ z. AreChildren c.id (ids c.net ++ z)) (ids_hung c.run r hung) i.1.here in
        let child : IsChild c.id (out-Run r).id = (Each-back (IsChild c.id) (ids c.net) ((out-Run r).id ∷ []) here.0).0 in
        let db : IsBoxedCase d = record { here = fits; net = i.1.net; run = ub } in
        let law = table_placed names (case_ident n) n (under_refl (case_ident n)) (case_entries names c) (case_entries names d) f.cases c d b e (λ cb. record { swaps = swaps_whole (case_ident n) (case_entries names c) (case_entries names d); same_id = refl; boxed = db }) in
        let xs : Entries = (c.id, case_site names c) ∷ (net_entries names c.net).1 in
        let first : case_entries names c ≡ xs ++ run_entries names r = ap (λ z. (c.id, case_site names c) ∷ ((net_entries names c.net).1 ++ z)) (below_hung names c.run r hung) in
        let off : NoneUnder (out-Run r).id xs = (strictly (out-Run r).id c.id (out-Run r).id child (under_refl (out-Run r).id), net_off names c.id c.net i.1.net (out-Run r).id child here) in
        let above : under id (case_ident n) ≡ true = subst (λ z. under z (case_ident n) ≡ true) its_id (subst (λ z. under (out-Run r).id z ≡ true) i.0 (child_under c.id (out-Run r).id child)) in (
          swaps_within (case_ident n) id above xs (run_entries names r) (below_run names u) _ _ (subst (λ z. NoneUnder z xs) its_id off)
              (subst (λ z. Swaps (case_ident n) z (case_entries names d) (entries names f) (entries names (placed_case f n d))) first law.0),
          law.1,
        )

-- ---- another run in its place
module _ (names : ℕ → List ℕ) (f : Forest) (b : IsForest f) (id : Ident) (long : 1 ≤ length id) (r w : Run) (e : run_of f id ≡ Some r) (same_id : (out-Run w).id ≡ (out-Run r).id) (wb : IsBoxedRun w) where
  pub run_placed : Swaps id (run_entries names r) (run_entries names w) (entries names f) (entries names (placed_run f id w)) × IsForest (placed_run f id w)
  run_placed =
      by_host f id r e
      (λ t v c at h.
      let hung = (run_here id c.run r h).1 in
      let q = rehung c.run r w hung wb in
      let i = its names f b (case_number id) c at in
      let fits : AreChildren c.id (ids c.net ++ run_ids (with_run c.run w)) = subst (λ z. AreChildren c.id (ids c.net ++ z)) (ids_hung c.run r hung ∙ sym (q.same_ids ∙ ap (λ z. z ∷ []) same_id)) i.1.here in
      let p = case_host names f b id r (with_run c.run w) q.boxed (case_number id) c at h fits in
      subst (λ (z : Forest). Swaps id (run_entries names r) (run_entries names w) (entries names f) (entries names z) × IsForest z) (sym (placed_in_its_case f id w v ∙ ap (over_case_run f (case_number id) w) at))
      (subst (λ z. Swaps id (run_entries names r) z (entries names f) (entries names (placed_case f (case_number id) (record c { run = with_run c.run w })))) (q.below names) p.0, p.1))
      (λ t v n at h.
      let l = out-Node n in
      let hung = (run_here id l.run r h).1 in
      let q = rehung l.run r w hung wb in
      let g = item_found f (parent id) n b at in
      let children : AreChildren l.id (net_ids l.net ++ run_ids l.run) = every_here-Node AtNet AtNode AtRun n g.1 in
      let fits : AreChildren (parent id) (net_ids l.net ++ run_ids (with_run l.run w)) = subst (λ z. AreChildren z (net_ids l.net ++ run_ids (with_run l.run w))) g.0 (subst (λ z. AreChildren l.id (net_ids l.net ++ z)) (ids_hung l.run r hung ∙ sym (q.same_ids ∙ ap (λ z. z ∷ []) same_id)) children) in
      let p = item_host names f b id r (with_run l.run w) q.boxed (parent id) (in_case (parent id) (parent_there id long t)) n at h fits in
      subst (λ (z : Forest). Swaps id (run_entries names r) (run_entries names w) (entries names f) (entries names z) × IsForest z) (sym (placed_in_its_item f id w v ∙ ap (over_item_run f (parent id) w) at))
      (subst (λ z. Swaps id (run_entries names r) z (entries names f) (entries names (item_replaced f (parent id) (roll-Node (record (out-Node n) { run = with_run (out-Node n).run w }))))) (q.below names) p.0, p.1))

-- ---- a run that stands is well boxed, and has its identity
pub run_found : (f : Forest) (id : Ident) (r : Run) → IsForest f → run_of f id ≡ Some r → ((out-Run r).id ≡ id) × IsBoxedRun r
run_found f id r b e =
    by_host f id r e
    (λ t v c at h. (has_its_id id c.run r h, boxed_hung c.run r (run_here id c.run r h).1 (its (λ k. []) f b (case_number id) c at).1.run))
    (λ t v n at h. (has_its_id id (out-Node n).run r h, boxed_hung (out-Node n).run r (run_here id (out-Node n).run r h).1 (below_every_node AtNet AtNode AtRun n (item_found f (parent id) n b at).1).1))

-- ---- the same with each run one level open, and what is below it lies under the identity
module _ (names : ℕ → List ℕ) where
  run_below_under : (id : Ident) (k : Run) → IsBoxedRun k → (out-Run k).id ≡ id → AllUnder id (below_net names (out-Run k).net)
  run_below_under id k kb same = subst (λ z. AllUnder z (below_net names (out-Run k).net)) same (subst (AllUnder (out-Run k).id) (run_entries_is names k) (run_keys names k kb)).1

  pub opened : (f : Forest) → IsForest f → (id : Ident) → 1 ≤ length id → (r w : Run) → run_of f id ≡ Some r → (out-Run w).id ≡ (out-Run r).id → IsBoxedRun w
      → Swaps id ((id, run_site names r) ∷ below_net names (out-Run r).net) ((id, run_site names w) ∷ below_net names (out-Run w).net) (entries names f) (entries names (placed_run f id w))
      × AllUnder id (below_net names (out-Run r).net) × AllUnder id (below_net names (out-Run w).net) × IsForest (placed_run f id w)
  opened f b id long r w e same_id wb =
      let own = run_found f id r b e in
      let p = run_placed names f b id long r w e same_id wb in
      let g : Forest = placed_run f id w in
      let first : run_entries names r ≡ (id, run_site names r) ∷ below_net names (out-Run r).net = run_entries_is names r ∙ ap (λ z. (z, run_site names r) ∷ below_net names (out-Run r).net) own.0 in
      let second : run_entries names w ≡ (id, run_site names w) ∷ below_net names (out-Run w).net = run_entries_is names w ∙ ap (λ z. (z, run_site names w) ∷ below_net names (out-Run w).net) (same_id ∙ own.0) in (
        subst (λ z. Swaps id z ((id, run_site names w) ∷ below_net names (out-Run w).net) (entries names f) (entries names g)) first (subst (λ z. Swaps id (run_entries names r) z (entries names f) (entries names g)) second p.0),
        run_below_under id r own.1 own.0,
        run_below_under id w wb (same_id ∙ own.0),
        p.1,
      )
