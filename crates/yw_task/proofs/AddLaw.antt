-- What an addition does: one item comes.
use Rattle.std.proofs.Common.{List, Option, Some, [], ap, refl, subst, sym, ℕ, ◌+◌, ◌∙◌, ◌∷◌, ◌≡◌}
use Rattle.std.specs.Prelude.{option_map, slice_get}
use Rattle.yw_base.specs.declared.value.Value.{Value}
use Rattle.yw_spec.specs.declared.spec.Net.{Net}
use Rattle.yw_spec.specs.declared.task.Task.{Task}
use Rattle.yw_state.proofs.Tests.{some_same}
use Rattle.yw_state.specs.After.{add, add_items, where_some, with_net as with_part}
use Rattle.yw_state.specs.Events.{after}
use Rattle.yw_state.specs.Given.{element_value}
use Rattle.yw_state.specs.Identity.{Ident}
use Rattle.yw_state.specs.Map.{get}
use Rattle.yw_state.specs.Passing.{given_values}
use Rattle.yw_state.specs.State.{State, TaskAt, task_at}
use Rattle.yw_state.specs.Values.{Row}
use Rattle.yw_state.specs.declared.event.Event.TheVariants as events
use Rattle.yw_state.specs.declared.part.Checks.{Checks}
use Rattle.yw_task.proofs.EnterAsk.{here, net_with, shown, task_stands}
use Rattle.yw_task.proofs.Placing.{items_placed}
use Rattle.yw_task.proofs.RoomLaw.{roomy_boxed, roomy_ids, roomy_shows}
use Rattle.yw_task.specs.Adds.{Adds, AddsElement, GivesRow}
use Rattle.yw_task.specs.Enters.{PlacesNet}
use Rattle.yw_task.specs.Room.{GetsListAndItems}
use Rattle.yw_tree.proofs.NetHere.{same_part}
use Rattle.yw_tree.specs.Boxed.{IsBoxedNet}
use Rattle.yw_tree.specs.Entries.{net_part}
use Rattle.yw_tree.specs.declared.NetState.{NetState, out-NetState}

pub adds_element : (net : Net) (old new : NetState) (i : Ident) (t : ℕ) (u : Task) → slice_get net.tasks t ≡ Some u → (element : Value) (n : ℕ) (due : Checks) (given : Row) → IsBoxedNet old
    → given_values u (out-NetState old).vals (Some element) ≡ Some given → GetsListAndItems i t due n (given ∷ []) old new → AddsElement net old i t element n due new
unfolding after
adds_element net old new i t u at element n due given boxed gives gets = λ names f s said task h.
    let x : TaskAt = record { number = t; task = task; within = net_with names net old } in
    let vals = (out-NetState old).vals in
    let roomy : NetState = gets.roomy in
    let shows = roomy_shows t old roomy gets.room names s.sites i ((here names f s i net old h.stands).beside names) (shown names f s i net old h.stands) in
    let own : get s.sites i ≡ option_map (with_part (λ _. net_part names roomy)) (get s.sites i) = sym (same_part (net_part names roomy) (get s.sites i) shows.part) in
    let one : List Row = given ∷ [] in
    let placed = items_placed names f s i net old t n due task h roomy s.sites (roomy_boxed t old roomy gets.room boxed) (roomy_ids t old roomy gets.room)
    shows own (λ q off. refl) h.fresh one new (n + 1) gets.items in
    let given_is : given_values task vals (Some element) ≡ Some given =
    ap (λ (z : Task). given_values z vals (Some element)) (some_same task u (sym h.task_is ∙ at)) ∙ gives in
    let done : where_some (task_at s i task.name) s (add s i element n) ≡ add_items x i n (given ∷ []) s =
    ap (λ o. where_some o s (add s i element n)) (task_stands names f s i net old h.stands h.spec h.within t task h.task_is)
    ∙ ap (λ (o : Option Row). where_some o s (λ row. add_items x i n (row ∷ []) s)) given_is in
    subst (λ (z : State). PlacesNet names f s z i new (n + 1)) (sym done) placed

-- and so it is for a value that stands for the element
pub adds : (net : Net) (old new : NetState) (i : Ident) (t : ℕ) (u : Task) → slice_get net.tasks t ≡ Some u → (value : Value) (n : ℕ) (due : Checks) (given : Row) → IsBoxedNet old
    → GivesRow u (out-NetState old).vals value given → GetsListAndItems i t due n (given ∷ []) old new → Adds net old i t value n due new
adds net old new i t u at value n due given boxed gives gets = λ names f s said task element h element_is.
    let same : task ≡ u = some_same task u (sym h.task_is ∙ at) in
    let is : gives.element ≡ element = some_same gives.element element (sym gives.stands ∙ ap (λ (z : Task). element_value z (Some value)) (sym same) ∙ element_is) in
    subst (λ (v : Value). PlacesNet names f s (after s (events.Add i task.name v n) said) i new (n + 1)) is
    (adds_element net old new i t u at gives.element n due given boxed gives.given gets names f s said task h)
