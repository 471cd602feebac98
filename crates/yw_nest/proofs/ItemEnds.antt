-- An item of an empty task that is completed: what the map has then.
use Rattle.std.proofs.Common.{Some, [], ap, sym, true, ◌∙◌, ◌≡◌}
use Rattle.yw_base.specs.Identity.{is_identity}
use Rattle.yw_nest.specs.Items.{CompletesEmpty}
use Rattle.yw_state.specs.After.{completed, with_item, with_sites}
use Rattle.yw_state.specs.Events.{after}
use Rattle.yw_state.specs.Identity.{Ident}
use Rattle.yw_state.specs.Map.{update}
use Rattle.yw_state.specs.State.{Site}
use Rattle.yw_state.specs.Values.{Row}
use Rattle.yw_state.specs.declared.part.Stage.TheVariants.{Completed}
use Rattle.yw_tree.proofs.ForestLaw.{identity_in_case}
use Rattle.yw_tree.proofs.NetLaw.{site_open}
use Rattle.yw_tree.proofs.OwnChange.{own_changed}
use Rattle.yw_tree.specs.Forest.{IsForest, item_of, item_replaced}
use Rattle.yw_tree.specs.Places.{Keeps}
use Rattle.yw_tree.specs.declared.Forest.{Forest}
use Rattle.yw_tree.specs.declared.NetState.{NetState}
use Rattle.yw_tree.specs.declared.Node.{Node, Node-F, out-Node}
use Rattle.yw_tree.specs.declared.Run.{Run}

abbrev Level : Type 0
Level = Node-F NetState Node Run

pub emptied : (f : Forest) (j : Ident) (old w : Node) (made : Row) → made ≡ [] → IsForest f → is_identity j ≡ true → item_of f j ≡ Some old
    → out-Node w ≡ record (out-Node old) { stage = Completed; made = made } → CompletesEmpty j f (item_replaced f j w)
unfolding after
emptied f j old w made nothing boxed identity found is =
    let e : out-Node w ≡ record (out-Node old) { stage = Completed; made = [] } = is ∙ (λ i. record (out-Node old) { stage = Completed; made = nothing i }) in
    let g : Site → Site = with_item (completed []) in
    let keeps : Keeps old w = record { id = ap (λ (l : Level). l.id) e; task = ap (λ (l : Level). l.task) e; net = ap (λ (l : Level). l.net) e; run = ap (λ (l : Level). l.run) e } in
    let r = own_changed f j old w boxed (identity_in_case j identity) found keeps in
    record {
      leads = λ names s said sites needs. ap (λ m. with_sites s (update m j g)) sites ∙ ap (with_sites s) (sym (r.0 names g (ap (site_open names) e)));
      boxed = r.1;
    }
