-- What an event removes: behind it, nothing stands at these identities. That an exit empties its removal set and that an item's end
-- takes the net below it is the paper's; what the primitives of an exlet remove is after the thesis. The list of it is our own.
use Rattle.std.specs.Prelude.{ℕ, ◌&&◌, Bool, false, not, List, ◌∷◌, Option, Some, None, is_some, if◌then◌else◌}
use Rattle.std.specs.List.{list_any}
use Rattle.yw_base.specs.Identity.{under, parent}
use Rattle.yw_spec.specs.declared.spec.Place.{Place}
use Rattle.yw_state.specs.Allowed.{place_numbers}
use Rattle.yw_state.specs.Exlets.{case_above}
use Rattle.yw_state.specs.Identity.{Ident, same, strictly_under, case_ident}
use Rattle.yw_state.specs.Nets.{is_among}
use Rattle.yw_state.specs.Options.{is_some_and}
use Rattle.yw_state.specs.State.{State, TaskAt, item_at, items_of, task_at}
use Rattle.yw_state.specs.Words.{is_completed}
use Rattle.yw_state.specs.declared.event.Event.{Event}
use Rattle.yw_state.specs.declared.event.Event.TheVariants as events
use Rattle.yw_state.specs.declared.tree.Primitive.{Primitive}
use Rattle.yw_state.specs.declared.tree.Primitive.TheVariants.{RestartItem, CompleteItem, RemoveItem, RemoveCase}

-- j is under an item of task k in the net at i
abbrev pub under_item : State → Ident → Ident → ℕ → Bool
under_item s i j k = list_any (λ e. under j e.0) (items_of s i k)

-- an exit: all under the items of the task, and under those of the tasks of its removal set
abbrev pub exit_removes : State → Ident → Ident → TaskAt → Bool
exit_removes s i j x = list_any (under_item s i j) (x.number ∷ x.task.drop_tasks)

-- all strictly under the item to which the run belongs, but for the run itself
abbrev pub cut_back_removes : Ident → Ident → Bool
cut_back_removes r j = strictly_under j (parent r) && not (same j r)

-- a primitive that run r takes: an item begins anew or counts as completed, or an item or the case goes with all under it
abbrev pub primitive_removes : State → Ident → Ident → Primitive → Bool
primitive_removes s r j RestartItem = is_some (item_at s (parent r)) && cut_back_removes r j
primitive_removes s r j CompleteItem = is_some_and (item_at s (parent r)) (λ x. not (is_completed x.part.stage)) && cut_back_removes r j
primitive_removes s r j RemoveItem = under j (parent r)
primitive_removes s r j RemoveCase = under j (case_above r)
primitive_removes s r j p = false

-- the event removes what stands at j; an event of no row here removes nothing
unfoldable pub removes : State → Event → Ident → Bool
removes s (events.Exit i t places) j = is_some_and (task_at s i t) (exit_removes s i j)
removes s (events.Finish n) j = under j (case_ident n)
removes s (events.Cancel n) j = under j (case_ident n)
removes s (events.CompleteSub i) j = strictly_under j i
removes s (events.CompleteWorklet i) j = strictly_under j i
removes s (events.Prim r p) j = primitive_removes s r j p
removes s (events.Compensated r) j = strictly_under j r
removes s e j = false

-- the net of an item that begins anew or counts as completed
abbrev pub primitive_ends : State → Ident → Primitive → Option Ident
primitive_ends s r RestartItem = if is_some (item_at s (parent r)) then Some (parent r) else None
primitive_ends s r CompleteItem = if is_some_and (item_at s (parent r)) (λ x. not (is_completed x.part.stage)) then Some (parent r) else None
primitive_ends s r p = None

-- at which identity the event ends a net
unfoldable pub net_ended : State → Event → Option Ident
net_ended s (events.CompleteSub j) = Some j
net_ended s (events.CompleteWorklet j) = Some j
net_ended s (events.Prim r p) = primitive_ends s r p
net_ended s (events.Compensated r) = Some r
net_ended s e = None

-- place c is of the removal set of the task, and gets no token where it exits to these places
abbrev pub exit_empties : List Place → ℕ → TaskAt → Bool
exit_empties places c x = is_among x.task.drop_places c && is_some_and (place_numbers x.within.net places) (λ cs. not (is_among cs c))
