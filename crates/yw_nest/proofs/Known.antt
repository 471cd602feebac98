-- What a state says of an item and its nets, by the forest.
use Rattle.std.proofs.Common.{Bool, List, None, Option, Some, ap, cond, length, sym, true, ℕ, ◌∙◌, ◌≡◌, ◌≤◌}
use Rattle.std.specs.Prelude.{is_some, option_and_then, option_map, slice_get}
use Rattle.yw_base.specs.Identity.{is_identity, case_number, parent}
use Rattle.yw_nest.specs.Items.{IsNetOf}
use Rattle.yw_spec.specs.declared.spec.Net.{Net}
use Rattle.yw_spec.specs.declared.spec.Spec.{Spec}
use Rattle.yw_spec.specs.declared.task.Task.{Task}
use Rattle.yw_state.specs.Identity.{Ident}
use Rattle.yw_state.specs.Map.{get}
use Rattle.yw_state.specs.State.{ItemAt, ItemPart, NetAt, NetPart, Site, State, TaskAt, item_at, item_part, net_at, net_of, net_part, spec_called, task_in}
use Rattle.yw_tree.proofs.Attached.{no_net}
use Rattle.yw_tree.proofs.FindLaw.{item_shown}
pub use Rattle.yw_tree.proofs.ItemWith.{no_case}
use Rattle.yw_tree.proofs.NetAt.{net_here}
use Rattle.yw_tree.proofs.Parents.{parent_there}
use Rattle.yw_base.proofs.Parents.{identity_long}
use Rattle.yw_tree.specs.Entries.{item_part_of, item_site, net_part as its_part}
use Rattle.yw_tree.specs.Forest.{IsForest, item_of, sites_of, top_of}
use Rattle.yw_tree.specs.Places.{net_at as net_found, net_of_run, run_of}
use Rattle.yw_tree.specs.Ways.{net_in, net_of_item}
use Rattle.yw_tree.specs.declared.Forest.{Forest}
use Rattle.yw_tree.specs.declared.NetState.{NetState, out-NetState}
use Rattle.yw_tree.specs.declared.Node.{Node, out-Node}

-- ---- whatever the state

-- where no net stands at it, it has none
pub no_net_at : (f : Forest) → IsForest f → (j : Ident) → (n : Node) → item_of f j ≡ Some n → net_found f j ≡ None → (out-Node n).net ≡ None
no_net_at f b j n found vacant =
    let its : net_found f j ≡ net_in (out-Node n).net =
    ap (λ (z : Bool). cond z (top_of f (case_number j)) (cond (is_some (item_of f j)) (net_of_item (item_of f j)) (net_of_run (run_of f j)))) (no_case f b j n found)
    ∙ ap (λ (o : Option Node). cond (is_some o) (net_of_item o) (net_of_run (run_of f j))) found in
    no_net (out-Node n).net (sym its ∙ vacant)

abbrev pub its_task : (ℕ → List ℕ) → NetState → Net → Node → Task → TaskAt
its_task names u net n task = record { number = (out-Node n).task; task = task; within = record { part = its_part names u; net = net } }

abbrev pub its_item : (ℕ → List ℕ) → NetState → Net → Node → Task → ItemAt
its_item names u net n task = record { part = item_part_of n; of_task = its_task names u net n task }

module _ (names : ℕ → List ℕ) (f : Forest) (b : IsForest f) (s : State) (is : s.sites ≡ sites_of names f) where
  -- ---- a net

  pub part_known : (i : Ident) → 1 ≤ length i → (u : NetState) → net_found f i ≡ Some u → net_part s i ≡ Some (its_part names u)
  part_known i long u e = ap (λ m. option_and_then (λ (x : Site). x.net) (get m i)) is ∙ ((net_here f i u b long e).shows names).part

  pub spec_known : (i : Ident) → 1 ≤ length i → (u : NetState) → net_found f i ≡ Some u → (spec : Spec) → IsNetOf s i spec → spec_called s (names (out-NetState u).spec) ≡ Some spec
  spec_known i long u e spec of = sym (ap (option_and_then (λ (n : NetPart). spec_called s n.spec)) (part_known i long u e)) ∙ of

  pub net_known : (i : Ident) → 1 ≤ length i → (u : NetState) → net_found f i ≡ Some u → (spec : Spec) → IsNetOf s i spec → (net : Net)
      → slice_get spec.nets (out-NetState u).net ≡ Some net → net_at s i ≡ Some (record { part = its_part names u; net = net })
  net_known i long u e spec of net at =
      ap (option_and_then (λ (n : NetPart). option_map (λ (w : Net). record { part = n; net = w }) (net_of s n))) (part_known i long u e)
      ∙ ap (λ o. option_map (λ (w : Net). record { part = its_part names u; net = w }) (option_and_then (λ (z : Spec). slice_get z.nets (out-NetState u).net) o)) (spec_known i long u e spec of)
      ∙ ap (option_map (λ (w : Net). record { part = its_part names u; net = w })) at

  -- ---- an item

  module _ (j : Ident) (identity : is_identity j ≡ true) (n : Node) (found : item_of f j ≡ Some n) where
    pub site_known : get s.sites j ≡ Some (item_site names n)
    site_known = ap (λ m. get m j) is ∙ item_shown names f b j (identity_long j identity) n found

    pub item_known : (u : NetState) → net_found f (parent j) ≡ Some u → (spec : Spec) → IsNetOf s (parent j) spec → (net : Net) → slice_get spec.nets (out-NetState u).net ≡ Some net
        → (task : Task) → slice_get net.tasks (out-Node n).task ≡ Some task → item_at s j ≡ Some (its_item names u net n task)
    item_known u e spec of net at task which =
        let long : 1 ≤ length (parent j) = parent_there j (identity_long j identity) (no_case f b j n found) in
        let part : item_part s j ≡ Some (item_part_of n) = ap (option_and_then (λ (x : Site). x.item)) site_known in
        ap (option_and_then (λ (x : ItemPart). option_and_then (λ (w : NetAt). option_map (λ t. record { part = x; of_task = t }) (task_in w x.task)) (net_at s (parent j)))) part
        ∙ ap (option_and_then (λ (w : NetAt). option_map (λ t. record { part = item_part_of n; of_task = t }) (task_in w (out-Node n).task))) (net_known (parent j) long u e spec of net at)
        ∙ ap (λ o. option_map (λ (t : TaskAt). record { part = item_part_of n; of_task = t }) (option_map (λ (t : Task). record { number = (out-Node n).task; task = t; within = record { part = its_part names u; net = net } }) o)) which
