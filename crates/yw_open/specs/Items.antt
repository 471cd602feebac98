-- What is open at an item, and where none stands. Our own.
use Rattle.std.specs.Prelude.{◌≡◌, ◌&&◌, false, ℕ, List, None, Option, Some, if◌then◌else◌, is_some, not}
use Rattle.yw_known.specs.Here.{IsItemHere}
use Rattle.yw_known.specs.declared.here.ItemHere.{ItemHere}
use Rattle.yw_library.specs.Holdings.{Holdings}
use Rattle.yw_open.specs.Opens.{AreOpens, IsHeldUnchosen}
use Rattle.yw_spec.specs.declared.task.Task.{Task}
use Rattle.yw_state.specs.Identity.{Ident}
use Rattle.yw_state.specs.Nets.{is_atomic}
use Rattle.yw_state.specs.State.{State, is_item}
use Rattle.yw_state.specs.declared.answer.What.TheVariants as whats
use Rattle.yw_state.specs.declared.part.Stage.{Stage}
use Rattle.yw_state.specs.declared.part.Stage.TheVariants.{Completed, Executing, Ready}
use Rattle.yw_tree.specs.declared.Forest.{Forest}
use Rattle.yw_tree.specs.declared.Node.{Node, out-Node}
use Rattle.yw_work.specs.Open.{by_person, by_role}
use Rattle.yw_work.specs.declared.open.Open.{Open}

-- what is open at this stage: a start, for the task's role, or a completion, for who has started the item
abbrev pub at_stage : Task → Option (List ℕ) → Stage → Option Open
at_stage t who Ready = Some (record { task = t.name; what = whats.Start; by = by_role t.role })
at_stage t who Executing = Some (record { task = t.name; what = whats.Complete; by = by_person who })
at_stage t who Completed = None

-- what may be done with the item itself, where persons do it and no exlet is at work on it
abbrev pub item_open : Node → Task → Option Open
item_open n t =
    if is_atomic t && not (is_some (out-Node n).run) then at_stage t (out-Node n).who (out-Node n).stage else None

-- wherever the item stands, this is what is open there
abbrev pub TellsItem : Holdings → ItemHere → List Open → Type 0
TellsItem known h opens = (f : Forest) (s : State) (j : Ident) → IsHeldUnchosen known f s → IsItemHere known f s j h → AreOpens s j opens

-- in each state for which they stand and in which no item stands at j, this is what is open there
abbrev pub TellsNoItem : Holdings → Forest → Ident → List Open → Type 0
TellsNoItem known f j opens = (s : State) → IsHeldUnchosen known f s → is_item s j ≡ false → AreOpens s j opens
