-- The child net of an item ends: what the map has then.
use Rattle.std.proofs.Common.{Bool, List, None, Some, [], ap, false, refl, sym, true, ℕ, ◌∙◌, ◌≡◌}
use Rattle.std.specs.Prelude.{not, option_and_then, option_map, ◌&&◌}
use Rattle.yw_base.specs.Identity.{is_identity, under}
use Rattle.yw_nest.proofs.Known.{item_known, its_item, net_known, site_known}
use Rattle.yw_sites.proofs.Twice.{updated_twice}
use Rattle.yw_nest.specs.Items.{CompletesSub, EndsAs, MadeByChild}
use Rattle.yw_sites.proofs.Prefix.{same_refl}
use Rattle.yw_spec.specs.declared.spec.Spec.{Spec}
use Rattle.yw_state.proofs.MapLemmas.{by_name, get-retain_kept, get-update_same}
use Rattle.yw_state.proofs.Tests.{nowhere}
use Rattle.yw_state.specs.After.{complete, completed, due_where, end_net, where_some, with_item, with_sites}
use Rattle.yw_state.specs.ByName.{made_by_child}
use Rattle.yw_state.specs.Events.{after}
use Rattle.yw_state.specs.Identity.{Ident, strictly_under}
use Rattle.yw_state.specs.Map.{get, retain, update}
use Rattle.yw_state.specs.State.{ItemAt, NetAt, Site, Sites, State, bare, item_at, net_at, opening, without_net}
use Rattle.yw_state.specs.Values.{Row}
use Rattle.yw_state.specs.declared.part.Checks.{Checks}
use Rattle.yw_state.specs.declared.part.Stage.TheVariants.{Completed}
use Rattle.yw_state.specs.declared.tree.TreeKind.TheVariants.{Post}
use Rattle.yw_tree.proofs.AbsentLaw.{item_is}
use Rattle.yw_tree.proofs.ForestLaw.{identity_in_case}
use Rattle.yw_tree.proofs.NetLaw.{site_open}
use Rattle.yw_tree.proofs.OwnChange.{own_changed}
use Rattle.yw_tree.proofs.Parents.{identity_short}
use Rattle.yw_base.proofs.Parents.{identity_long}
use Rattle.yw_tree.specs.Becomes.{Bares}
use Rattle.yw_tree.specs.Entries.{item_part_of, item_site, net_part as its_part}
use Rattle.yw_tree.specs.Forest.{IsForest, item_of, item_replaced, sites_of}
use Rattle.yw_tree.specs.Places.{Keeps}
use Rattle.yw_tree.specs.declared.Forest.{Forest}
use Rattle.yw_tree.specs.declared.NetState.{NetState}
use Rattle.yw_tree.specs.declared.Node.{Node, Node-F, out-Node}
use Rattle.yw_tree.specs.declared.Run.{Run}

-- ---- what a map has once all strictly under an identity is gone, and the net there

and_not : (a : Bool) → (a && false) ≡ false
and_not true = refl
and_not false = refl

get-bare_same : (m : Sites) (j : Ident) → get (bare m j) j ≡ option_map without_net (get m j)
get-bare_same m j =
    let kept : not (strictly_under j j) ≡ true = ap (λ b. not (under j j && not b)) (same_refl j) ∙ ap not (and_not (under j j)) in
    get-update_same by_name (retain m (λ k. not (strictly_under k j))) j without_net ∙ ap (option_map without_net) (get-retain_kept by_name m (λ k. not (strictly_under k j)) j kept)

abbrev Level : Type 0
Level = Node-F NetState Node Run

-- the check after it is due too, if this says so
abbrev judged : Bool → Site → Site
judged b y = record y { due = due_where b Post y.due }

module _ (f : Forest) (boxed : IsForest f) (spec : Spec) (j : Ident) (identity : is_identity j ≡ true) (made : Row) (by : MadeByChild f spec j made) where
  -- ---- what the event does
  module _ (names : ℕ → List ℕ) (s : State) (sites : s.sites ≡ sites_of names f) (due : Checks) (ends : EndsAs spec j due s) where
    abbrev x : ItemAt
    x = its_item names by.may.place.outer by.may.place.net by.may.place.item by.may.place.task

    known : item_at s j ≡ Some x
    known = item_known names f boxed s sites j identity by.may.place.item by.may.place.found by.may.place.outer by.may.place.stands_in spec ends.outer by.may.place.net by.may.place.of_net by.may.place.task by.may.place.of_task

    abbrev n : NetAt
    n = record { part = its_part names by.may.inner; net = by.may.child }

    inner_known : net_at s j ≡ Some n
    inner_known = net_known names f boxed s sites j (identity_long j identity) by.may.inner by.may.stands spec ends.inner by.may.child by.may.of_child

    after_then : where_some (item_at s j) s (end_net s j made_by_child) ≡ with_sites s (update (bare (sites_of names f) j) j (λ y. judged due.post (with_item (completed made) y)))
    after_then =
        ap (λ o. where_some o s (end_net s j made_by_child)) known
        ∙ ap (λ o. where_some o s (λ (w : NetAt). complete (with_sites s (bare s.sites j)) j (made_by_child w x) x)) inner_known
        ∙ ap (λ r. complete (with_sites s (bare s.sites j)) j r x) (sym by.values)
        ∙ ap (λ b. with_sites s (update (update (bare s.sites j) j (with_item (completed made))) j (judged b))) (sym (ends.checks x known))
        ∙ ap (with_sites s) (updated_twice (bare s.sites j) j (with_item (completed made)) (judged due.post))
        ∙ ap (λ m. with_sites s (update (bare m j) j (λ y. judged due.post (with_item (completed made) y)))) sites

  -- ---- what the calls do
  module _ (f1 : Forest) (bares : Bares f f1 j) (boxed1 : IsForest f1) where
    -- the item stays
    pub item_stays : item_of f1 j ≡ None → ⊥
    item_stays e =
        let names : ℕ → List ℕ = λ k. [] in
        let item = by.may.place.item in
        let still : get (sites_of names f1) j ≡ Some (without_net (item_site names item)) =
        ap (λ m. get m j) (bares names) ∙ get-bare_same (sites_of names f) j ∙ ap (option_map without_net) (site_known names f boxed (record opening { sites = sites_of names f }) refl j identity item by.may.place.found) in
        nowhere (sym (item_is names j f1 boxed1 (identity_in_case j identity) (identity_short j identity) ∙ ap (option_map item_part_of) e) ∙ ap (option_and_then (λ (y : Site). y.item)) still)

    pub sub_completed : (due : Checks) (n1 w : Node) → item_of f1 j ≡ Some n1 → out-Node w ≡ record (out-Node n1) { stage = Completed; made = made; due = due_where due.post Post (out-Node n1).due }
        → CompletesSub spec j due f (item_replaced f1 j w)
    unfolding after
    sub_completed due n1 w found e =
        let g : Site → Site = λ y. judged due.post (with_item (completed made) y) in
        let keeps : Keeps n1 w = record { id = ap (λ (l : Level). l.id) e; task = ap (λ (l : Level). l.task) e; net = ap (λ (l : Level). l.net) e; run = ap (λ (l : Level). l.run) e } in
        let r = own_changed f1 j n1 w boxed1 (identity_in_case j identity) found keeps in
        record {
          leads = λ names s said sites ends.
              after_then names s sites due ends
              ∙ ap (λ m. with_sites s (update m j g)) (sym (bares names))
              ∙ ap (with_sites s) (sym (r.0 names g (ap (site_open names) e)));
          boxed = r.1;
        }
