-- A worklet ends at an item: what the map has then.
use Rattle.std.proofs.Common.{Bool, List, None, Some, [], ap, refl, sym, true, ℕ, ◌∙◌, ◌≡◌}
use Rattle.std.specs.Prelude.{map, option_and_then, option_map}
use Rattle.yw_base.proofs.Parents.{identity_long}
use Rattle.yw_base.specs.Identity.{is_identity}
use Rattle.yw_nest.proofs.Known.{net_known, site_known}
use Rattle.yw_worklet.proofs.Nothing.{get-bare_same}
use Rattle.yw_sites.proofs.Twice.{updated_twice}
use Rattle.yw_spec.specs.declared.spec.Spec.{Spec}
use Rattle.yw_spec.specs.declared.task.Task.{Task}
use Rattle.yw_state.proofs.Tests.{nowhere}
use Rattle.yw_state.specs.After.{complete, completed, due_where, end_net, where_some, with_item, with_sites}
use Rattle.yw_state.specs.ByName.{made_by_worklet}
use Rattle.yw_state.specs.Events.{after}
use Rattle.yw_state.specs.Identity.{Ident}
use Rattle.yw_state.specs.Map.{get, update}
use Rattle.yw_state.specs.State.{ItemAt, NetAt, Site, Sites, State, bare, item_at, net_at, opening, without_net}
use Rattle.yw_state.specs.Values.{Row}
use Rattle.yw_state.specs.declared.part.Checks.{Checks}
use Rattle.yw_state.specs.declared.part.Stage.TheVariants.{Completed}
use Rattle.yw_state.specs.declared.tree.TreeKind.TheVariants.{Post}
use Rattle.yw_tree.proofs.AbsentLaw.{item_is}
use Rattle.yw_tree.proofs.ForestLaw.{identity_in_case}
use Rattle.yw_tree.proofs.NetLaw.{site_open}
use Rattle.yw_tree.proofs.OwnChange.{own_changed}
use Rattle.yw_tree.proofs.Parents.{identity_short}
use Rattle.yw_tree.specs.Becomes.{Bares}
use Rattle.yw_tree.specs.Entries.{item_part_of, item_site, net_part as its_part}
use Rattle.yw_tree.specs.Forest.{IsForest, item_of, item_replaced, sites_of}
use Rattle.yw_tree.specs.Places.{Keeps}
use Rattle.yw_tree.specs.declared.Forest.{Forest}
use Rattle.yw_tree.specs.declared.NetState.{NetState, out-NetState}
use Rattle.yw_tree.specs.declared.Node.{Node, Node-F, out-Node}
use Rattle.yw_tree.specs.declared.Run.{Run}
use Rattle.yw_worklet.proofs.Known.{given_is, its_item}
use Rattle.yw_worklet.specs.Ends.{CompletesWorklet, EndsAs, MadeByWorklet}
use Rattle.yw_worklet.specs.Named.{handed_back, returned_value}

abbrev Level : Type 0
Level = Node-F NetState Node Run

-- the check after it is due too, if this says so
abbrev judged : Bool → Site → Site
judged b y = record y { due = due_where b Post y.due }

module _ (f : Forest) (boxed : IsForest f) (task : Task) (worklet : Spec) (j : Ident) (identity : is_identity j ≡ true) (made : Row) (by : MadeByWorklet f task worklet j made) where
  -- ---- what the event does
  module _ (names : ℕ → List ℕ) (s : State) (sites : s.sites ≡ sites_of names f) (due : Checks) (ends : EndsAs task worklet j due s) where
    abbrev n : NetAt
    n = record { part = its_part names by.may.inner; net = by.may.net }

    inner_known : net_at s j ≡ Some n
    inner_known = net_known names f boxed s sites j (identity_long j identity) by.may.inner by.may.stands worklet ends.inner by.may.net by.may.of_net

    item : (x : ItemAt) × (item_at s j ≡ Some x) × (x.of_task.task ≡ task)
    item = its_item s j task ends.item

    makes : made_by_worklet n item.0 ≡ made
    makes =
        (let given = given_is names f boxed s sites j identity by.may.item by.may.found item.0 item.1 task item.2 in
        λ i. map (returned_value (handed_back by.may.net.vars (out-NetState by.may.inner).vals) (given i)) (item.2 i).outs)
        ∙ sym by.values

    after_then : where_some (item_at s j) s (end_net s j made_by_worklet) ≡ with_sites s (update (bare (sites_of names f) j) j (λ y. judged due.post (with_item (completed made) y)))
    after_then =
        let x : ItemAt = item.0 in
        ap (λ o. where_some o s (end_net s j made_by_worklet)) item.1
        ∙ ap (λ o. where_some o s (λ (w : NetAt). complete (with_sites s (bare s.sites j)) j (made_by_worklet w x) x)) inner_known
        ∙ ap (λ r. complete (with_sites s (bare s.sites j)) j r x) makes
        ∙ ap (λ b. with_sites s (update (update (bare s.sites j) j (with_item (completed made))) j (judged b))) (sym (ends.checks x item.1))
        ∙ ap (with_sites s) (updated_twice (bare s.sites j) j (with_item (completed made)) (judged due.post))
        ∙ ap (λ m. with_sites s (update (bare m j) j (λ y. judged due.post (with_item (completed made) y)))) sites

  -- ---- what the calls do
  module _ (f1 : Forest) (bares : Bares f f1 j) (boxed1 : IsForest f1) where
    -- the item stays
    pub item_stays : item_of f1 j ≡ None → ⊥
    item_stays e =
        let names : ℕ → List ℕ = λ k. [] in
        let item = by.may.item in
        let still : get (sites_of names f1) j ≡ Some (without_net (item_site names item)) =
        ap (λ m. get m j) (bares names)
        ∙ get-bare_same (sites_of names f) j
        ∙ ap (option_map without_net) (site_known names f boxed (record opening { sites = sites_of names f }) refl j identity item by.may.found) in
        nowhere (sym (item_is names j f1 boxed1 (identity_in_case j identity) (identity_short j identity) ∙ ap (option_map item_part_of) e) ∙ ap (option_and_then (λ (y : Site). y.item)) still)

    pub worklet_completed : (due : Checks) (n1 w : Node) → item_of f1 j ≡ Some n1 → out-Node w ≡ record (out-Node n1) { stage = Completed; made = made; due = due_where due.post Post (out-Node n1).due }
        → CompletesWorklet task worklet j due f (item_replaced f1 j w)
    unfolding after
    worklet_completed due n1 w found e =
        let g : Site → Site = λ y. judged due.post (with_item (completed made) y) in
        let keeps : Keeps n1 w = record { id = ap (λ (l : Level). l.id) e; task = ap (λ (l : Level). l.task) e; net = ap (λ (l : Level). l.net) e; run = ap (λ (l : Level). l.run) e } in
        let r = own_changed f1 j n1 w boxed1 (identity_in_case j identity) found keeps in
        record {
          leads = λ names s said sites ends.
              after_then names s sites due ends
              ∙ ap (λ m. with_sites s (update m j g)) (sym (bares names))
              ∙ ap (with_sites s) (sym (r.0 names g (ap (site_open names) e)));
          boxed = r.1;
        }
