-- A worklet that begins at an item: what the map has then.
use Rattle.std.proofs.Common.{Box, Global, List, None, Some, [], ap, refl, subst, sym, true, ℕ, ◌++◌, ◌∙◌, ◌≡◌}
use Rattle.std.specs.Prelude.{option_and_then}
use Rattle.yw_base.specs.Identity.{is_identity}
use Rattle.yw_worklet.proofs.Nothing.{no_ids, none_below}
use Rattle.yw_sites.proofs.Twice.{updated_twice}
use Rattle.yw_sites.specs.Idents.{AreChildren}
use Rattle.yw_spec.specs.declared.spec.Net.{Net}
use Rattle.yw_spec.specs.declared.spec.Spec.{Spec}
use Rattle.yw_spec.specs.declared.task.Task.{Task}
use Rattle.yw_state.specs.After.{begin_at, begun, new_net, pass, stands, substitute, where_some, with_item, with_sites, without_check}
use Rattle.yw_state.specs.ByName.{first_values, given_named, param_value}
use Rattle.yw_state.specs.Events.{after}
use Rattle.yw_state.specs.Identity.{Ident}
use Rattle.yw_state.specs.Map.{update}
use Rattle.yw_state.specs.Nets.{top_net}
use Rattle.yw_state.specs.State.{NetPart, Site, State, item_at, spec_called, top_called}
use Rattle.yw_state.specs.declared.part.Stage.TheVariants.{Executing}
use Rattle.yw_state.specs.declared.tree.TreeKind.TheVariants.{Select}
use Rattle.yw_tree.proofs.ForestLaw.{InCase, identity_in_case, item_found, placed_law}
use Rattle.yw_tree.proofs.Induct.{below_every_node}
use Rattle.yw_tree.proofs.Made.{made_node}
use Rattle.yw_tree.proofs.NetLaw.{item_own, site_open}
use Rattle.yw_tree.specs.Boxed.{AtNet, AtNode, AtRun, IsBoxedNode, head, net_ids, run_ids}
use Rattle.yw_tree.specs.Entries.{below_net, below_run, item_site, net_part}
use Rattle.yw_tree.specs.Forest.{IsForest, item_replaced, sites_of}
use Rattle.yw_tree.specs.declared.Forest.{Forest}
use Rattle.yw_tree.specs.declared.NetState.{NetState}
use Rattle.yw_tree.specs.declared.Node.{Node, Node-F, every_here-Node, out-Node, roll-Node, roll-out-Node}
use Rattle.yw_tree.specs.declared.Run.{Run}
use Rattle.yw_worklet.proofs.Known.{given_is, its_item}
use Rattle.yw_worklet.specs.Chosen.{BeginsFor, ChoosesAs, Substitutes}

abbrev Level : Type 0
Level = Node-F NetState Node Run

-- its choice is due no longer, and it is executing
abbrev chosen : Site → Site
chosen x = with_item (begun None) (record x { due = without_check Select x.due })

module _ (f : Forest) (boxed : IsForest f) (task : Task) (worklet : Spec) (number : ℕ) (j : Ident) (identity : is_identity j ≡ true) (net : Box NetState Global)
    (by : BeginsFor f task worklet number j net.value) (none : (out-Node by.item).net ≡ None)
    (w : Node) (is : out-Node w ≡ record (out-Node by.item) { stage = Executing; who = None; net = Some net; due = without_check Select (out-Node by.item).due }) where
  abbrev old : Node
  old = by.item

  within : InCase j
  within = identity_in_case j identity

  abbrev level : Level
  level = record (out-Node by.item) { stage = Executing; who = None; net = Some net; due = without_check Select (out-Node by.item).due }

  w_boxed : IsBoxedNode w
  w_boxed =
      let g = item_found f j old boxed by.found in
      let l = out-Node old in
      let here : AreChildren l.id (net_ids l.net ++ run_ids l.run) = every_here-Node AtNet AtNode AtRun old g.1 in
      let alone : AreChildren l.id (run_ids l.run) = subst (λ z. AreChildren l.id (net_ids z ++ run_ids l.run)) none here in
      subst IsBoxedNode (sym (ap roll-Node is) ∙ roll-out-Node w)
      (made_node AtNet AtNode AtRun level (subst (λ z. AreChildren l.id (z ++ run_ids l.run)) (sym (no_ids net.value by.begins.begins.empty)) alone) by.begins.begins.boxed
      (below_every_node AtNet AtNode AtRun old g.1).1)

  w_head : head w ≡ head old
  w_head = ap (λ (z : Level). (z.id, z.task)) is

  -- what the event does there
  abbrev begins : (ℕ → List ℕ) → Site → Site
  begins names x = stands (net_part names net.value) (chosen x)

  map_then : (names : ℕ → List ℕ) → sites_of names (item_replaced f j w) ≡ update (sites_of names f) j (begins names)
  map_then names =
      item_own names f j old boxed within by.found w w_head w_boxed (begins names)
      (ap (λ (z : Level). below_net names z.net ++ below_run names z.run) is
      ∙ ap (λ z. z ++ below_run names (out-Node old).run) (none_below names net.value by.begins.begins.empty)
      ∙ ap (λ z. below_net names z ++ below_run names (out-Node old).run) (sym none))
      (ap (site_open names) is)

  after_then : (names : ℕ → List ℕ) (s : State) → s.sites ≡ sites_of names f → ChoosesAs task worklet number j names s
      → where_some (item_at s j) s (substitute s j (names number)) ≡ with_sites s (update s.sites j (begins names))
  after_then names s sites needs =
      let name = names number in
      let x = its_item s j task needs.item in
      let top = by.begins.top in
      let is_top : top_called s name ≡ Some top = ap (λ o. option_and_then top_net o) needs.loaded ∙ by.begins.of_spec in
      let begin : Spec → Net → State = λ spec net. begin_at (pass s j Select) j name spec.top (given_named x.0) None net in
      ap (λ o. where_some o s (substitute s j name)) x.1
      ∙ ap (λ o. where_some o s (λ spec. where_some (top_called s name) s (begin spec))) needs.loaded
      ∙ ap (λ o. where_some o s (begin worklet)) is_top
      ∙ ap (λ z. begin_at (pass s j Select) j name worklet.top z None top) (given_is names f boxed s sites j identity by.item by.found x.0 x.1 task x.2)
      ∙ ap (with_sites s) (updated_twice s.sites j (λ y. record y { due = without_check Select y.due })
      (λ y. stands (new_net name worklet.top top (first_values (param_value task.ins (out-Node by.item).given) top)) (with_item (begun None) y)))
      ∙ ap (λ (p : NetPart). with_sites s (update s.sites j (λ y. stands p (chosen y)))) (sym (by.begins.begins.part names))

  pub substituted : Substitutes task worklet number j f (item_replaced f j w)
  unfolding after
  substituted = record {
    leads = λ names s said sites needs. after_then names s sites needs ∙ ap (λ m. with_sites s (update m j (begins names))) sites ∙ ap (with_sites s) (sym (map_then names));
    boxed = (placed_law (λ n. []) f j old w boxed within by.found w_head w_boxed).boxed;
  }
