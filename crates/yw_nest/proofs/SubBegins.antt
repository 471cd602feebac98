-- The child net of an item begins: what the map has then.
use Rattle.std.proofs.Common.{List, None, Some, [], ap, subst, sym, true, ℕ, ◌++◌, ◌∙◌, ◌≡◌}
use Rattle.std.specs.Prelude.{Box, option_and_then, option_map, slice_get}
use Rattle.std.specs.declared.alloc.Global.{Global}
use Rattle.yw_base.specs.Identity.{is_identity, parent}
use Rattle.yw_nest.proofs.Known.{item_known, its_item, no_case, spec_known}
use Rattle.yw_nest.specs.Items.{BeginsChild, IsNetOf, StartsSub}
use Rattle.yw_sites.specs.Idents.{AreChildren}
use Rattle.yw_spec.specs.declared.spec.Net.{Net}
use Rattle.yw_spec.specs.declared.spec.Spec.{Spec}
use Rattle.yw_state.specs.After.{begun, net_numbered, new_net, stands, start_sub, where_some, with_item, with_sites}
use Rattle.yw_state.specs.ByName.{first_values, given_named}
use Rattle.yw_state.specs.Events.{after}
use Rattle.yw_state.specs.Identity.{Ident}
use Rattle.yw_state.specs.Map.{update}
use Rattle.yw_state.specs.State.{ItemAt, NetPart, Site, State, item_at, spec_called}
use Rattle.yw_state.specs.declared.part.Stage.TheVariants.{Executing}
use Rattle.yw_tree.proofs.Equations.{net_entries_is}
use Rattle.yw_tree.proofs.ForestLaw.{InCase, identity_in_case, item_found, placed_law}
use Rattle.yw_tree.proofs.Induct.{below_every_node}
use Rattle.yw_tree.proofs.Keys.{ids_are, kids}
use Rattle.yw_tree.proofs.Made.{made_node}
use Rattle.yw_tree.proofs.NetLaw.{item_own, site_open}
use Rattle.yw_tree.proofs.Parents.{parent_there}
use Rattle.yw_base.proofs.Parents.{identity_long}
use Rattle.yw_tree.specs.Boxed.{AtNet, AtNode, AtRun, IsBoxedNode, head, ids, net_ids, run_ids}
use Rattle.yw_tree.specs.Entries.{below_net, below_run, flat, item_site, net_entries, node_entries, nodes}
use Rattle.yw_tree.specs.Forest.{IsForest, item_replaced, sites_of}
use Rattle.yw_tree.specs.declared.Forest.{Forest}
use Rattle.yw_tree.specs.declared.NetState.{NetState, out-NetState}
use Rattle.yw_tree.specs.declared.Node.{Node, Node-F, every_here-Node, out-Node, roll-Node, roll-out-Node}
use Rattle.yw_tree.specs.declared.Run.{Run}

abbrev Level : Type 0
Level = Node-F NetState Node Run

no_ids : (s : NetState) → nodes s ≡ [] → ids s ≡ []
no_ids s e = ids_are s ∙ ap kids e

none_below : (names : ℕ → List ℕ) (s : NetState) → nodes s ≡ [] → (net_entries names s).1 ≡ []
none_below names s e = ap (λ z. z.1) (net_entries_is names s) ∙ ap (flat (node_entries names)) e

module _ (f : Forest) (boxed : IsForest f) (spec : Spec) (j : Ident) (identity : is_identity j ≡ true) (net : Box NetState Global) (child : BeginsChild f spec j net.value) (none : (out-Node child.place.item).net ≡ None)
    (w : Node) (is : out-Node w ≡ record (out-Node child.place.item) { stage = Executing; net = Some net }) where
  abbrev old : Node
  old = child.place.item

  within : InCase j
  within = identity_in_case j identity

  w_boxed : IsBoxedNode w
  w_boxed =
      let g = item_found f j child.place.item boxed child.place.found in
      let l = out-Node child.place.item in
      let m : Level = record (out-Node child.place.item) { stage = Executing; net = Some net } in
      let here : AreChildren l.id (net_ids l.net ++ run_ids l.run) = every_here-Node AtNet AtNode AtRun child.place.item g.1 in
      let alone : AreChildren l.id (run_ids l.run) = subst (λ z. AreChildren l.id (net_ids z ++ run_ids l.run)) none here in
      subst IsBoxedNode (sym (ap roll-Node is) ∙ roll-out-Node w)
      (made_node AtNet AtNode AtRun m (subst (λ z. AreChildren l.id (z ++ run_ids l.run)) (sym (no_ids net.value child.begins.empty)) alone) child.begins.boxed (below_every_node AtNet AtNode AtRun child.place.item g.1).1)

  w_head : head w ≡ head old
  w_head = ap (λ (z : Level). (z.id, z.task)) is

  -- what the event does there
  abbrev begins : (ℕ → List ℕ) → Site → Site
  begins names at =
      stands (new_net (names (out-NetState child.place.outer).spec) child.number child.child (first_values (given_named (its_item names child.place.outer child.place.net child.place.item child.place.task)) child.child))
      (with_item (begun (out-Node child.place.item).who) at)

  map_then : (names : ℕ → List ℕ) → sites_of names (item_replaced f j w) ≡ update (sites_of names f) j (begins names)
  map_then names =
      item_own names f j old boxed within child.place.found w w_head w_boxed (begins names)
      (ap (λ (z : Level). below_net names z.net ++ below_run names z.run) is ∙ ap (λ z. z ++ below_run names (out-Node old).run) (none_below names net.value child.begins.empty) ∙ ap (λ z. below_net names z ++ below_run names (out-Node old).run) (sym none))
      (ap (site_open names) is ∙ ap (λ (p : NetPart). stands p (with_item (begun (out-Node child.place.item).who) (item_site names child.place.item))) (child.begins.part names))

  after_then : (names : ℕ → List ℕ) (s : State) → s.sites ≡ sites_of names f → IsNetOf s (parent j) spec
      → where_some (item_at s j) s (start_sub s j) ≡ with_sites s (update s.sites j (begins names))
  after_then names s sites of =
      let p = child.place in
      let x : ItemAt = its_item names p.outer p.net p.item p.task in
      let known : item_at s j ≡ Some x = item_known names f boxed s sites j identity p.item p.found p.outer p.stands_in spec of p.net p.of_net p.task p.of_task in
      let called : spec_called s (names (out-NetState p.outer).spec) ≡ Some spec =
      spec_known names f boxed s sites (parent j) (parent_there j (identity_long j identity) (no_case f boxed j p.item p.found)) p.outer p.stands_in spec of in
      let begin : ℕ × Net → State = λ e.
      with_sites s (update s.sites j (λ at. stands (new_net (names (out-NetState p.outer).spec) e.0 e.1 (first_values (given_named x) e.1)) (with_item (begun (out-Node p.item).who) at))) in
      ap (λ o. where_some o s (start_sub s j)) known
      ∙ ap (λ o. where_some (option_and_then (λ (z : Spec). net_numbered z p.task) o) s begin) called
      ∙ ap (λ o. where_some (option_and_then (λ k. option_map (λ (z : Net). (k, z)) (slice_get spec.nets k)) o) s begin) child.of_task
      ∙ ap (λ o. where_some (option_map (λ (z : Net). (child.number, z)) o) s begin) child.of_spec

  pub sub_started : StartsSub spec j f (item_replaced f j w)
  unfolding after
  sub_started = record {
    leads = λ names s said sites of. after_then names s sites of ∙ ap (λ m. with_sites s (update m j (begins names))) sites ∙ ap (with_sites s) (sym (map_then names));
    boxed = (placed_law (λ n. []) f j old w boxed within child.place.found w_head w_boxed).boxed;
  }
