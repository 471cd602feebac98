-- The work at an identity, whoever asks for it: what of it stands, and whom it is for. Our own.
use Rattle.std.specs.Prelude.{◌≡◌, ◌↔◌, ℕ, ◌&&◌, Bool, true, false, not, List, [], Option, Some, None, is_none, unwrap_or}
use Rattle.std.specs.List.{list_any}
use Rattle.std.specs.Str.{bytes_eq}
use Rattle.yw_state.specs.Identity.{Ident}
use Rattle.yw_state.specs.Joins.{NoWait, has_tokens}
use Rattle.yw_state.specs.Judged.{is_manual}
use Rattle.yw_state.specs.Map.{get, has_key}
use Rattle.yw_state.specs.Nets.{is_atomic}
use Rattle.yw_state.specs.State.{ItemAt, Site, State, TaskAt, is_suspended, item_at, net_part, run_part, task_at}
use Rattle.yw_state.specs.Well.{Stands}
use Rattle.yw_state.specs.Words.{active, busy, held, is_executing, is_ready}
use Rattle.yw_state.specs.declared.answer.What.{What}
use Rattle.yw_state.specs.declared.answer.What.TheVariants.{Enter, Start, Complete}
use Rattle.yw_state.specs.declared.answer.WorkRow.{WorkRow}
use Rattle.yw_work.specs.declared.open.By.{By}
use Rattle.yw_work.specs.declared.open.By.TheVariants as bys

-- ---- whom it is for

abbrev pub by_role : Option (List ℕ) → By
by_role None = bys.Anyone
by_role (Some role) = bys.Role role

abbrev pub by_person : Option (List ℕ) → By
by_person None = bys.Anyone
by_person (Some who) = bys.Person who

abbrev pub roles_of : State → List ℕ → List (List ℕ)
roles_of s who = unwrap_or (get s.persons who) []

-- it is for a person of this name with these roles
abbrev pub admits : List (List ℕ) → List ℕ → By → Bool
admits roles who bys.Anyone = true
admits roles who (bys.Role role) = list_any (bytes_eq role) roles
admits roles who (bys.Person name) = bytes_eq name who

-- ---- what is open, whether or not work is held there

-- a person may enter the task in the net at i, but for an OR-join's wait
abbrev pub may_enter : State → Ident → TaskAt → Bool
may_enter s i x = is_manual s x && (not (active s i x.number) && has_tokens x.task.join s i x.task.before)

abbrev pub may_start : State → Ident → ItemAt → Bool
may_start s j x = is_atomic x.of_task.task && (is_ready x.part.stage && not (busy s j))

abbrev pub may_complete : State → Ident → ItemAt → Bool
may_complete s j x = is_atomic x.of_task.task && (is_none (net_part s j) && (is_executing x.part.stage && not (busy s j)))

pub record EntryOpen (s : State) (i : Ident) (t : List ℕ) (by : By) : Type 0 where
  pub of_task : TaskAt
  pub here : task_at s i t ≡ Some of_task
  pub may : may_enter s i of_task ≡ true
  pub goes : NoWait s i of_task
  pub whom : by ≡ by_role of_task.task.role

pub record ItemOpen (s : State) (j : Ident) (t : List ℕ) (can : ItemAt → Bool) (worker : ItemAt → By) (by : By) : Type 0 where
  pub item : ItemAt
  pub here : item_at s j ≡ Some item
  pub may : can item ≡ true
  pub named : item.of_task.task.name ≡ t
  pub whom : by ≡ worker item

abbrev pub starter : ItemAt → By
starter x = by_role x.of_task.task.role

abbrev pub completer : ItemAt → By
completer x = by_person x.part.who

-- at this identity this may be done to this task, by whom it is for
abbrev pub IsOpen : State → Ident → List ℕ → What → By → Type 0
IsOpen s at t Enter by = EntryOpen s at t by
IsOpen s at t Start by = ItemOpen s at t (may_start s at) starter by
IsOpen s at t Complete by = ItemOpen s at t (may_complete s at) completer by

-- This is open, work isn't held there, and it is for this person, who is known.
pub record IsForAt (s : State) (who : List ℕ) (at : Ident) (task : List ℕ) (what : What) : Type 0 where
  pub person : has_key s.persons who ≡ true
  pub by : By
  pub is : IsOpen s at task what by
  pub free : held s at ≡ false
  pub admitted : admits (roles_of s who) who by ≡ true

abbrev pub IsFor : State → List ℕ → WorkRow → Type 0
IsFor s who row = IsForAt s who row.at row.task row.what

-- the same is open at j in both
abbrev pub OpenSame : State → State → Ident → Type 0
OpenSame s t j = (name : List ℕ) (what : What) (by : By) → IsOpen s j name what by ↔ IsOpen t j name what by

-- What stands at j stood there before. The same is open, and the same marks hold work back or shield it.
pub record StaysOpen (s t : State) (j : Ident) : Type 0 where
  pub stood : (y : Site) × Stands s j y
  pub open_same : OpenSame s t j
  pub suspended : is_suspended t j ≡ is_suspended s j
  pub run : run_part t j ≡ run_part s j
