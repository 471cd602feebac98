-- The tasks of a net that a person may enter, whoever it is and whether or not work is held there. Our own.
use Rattle.std.specs.List.{IsDistinct}
use Rattle.std.specs.Ordering.{eq_by_cmp}
use Rattle.std.specs.Prelude.{◌≡◌, ◌↔◌, ◌⊎◌, ◌<◌, ◌++◌, ◌∷◌, [], ℕ, Bool, List, Some, map, slice_get, true}
use Rattle.yw_base.specs.Identity.{is_identity}
use Rattle.yw_known.specs.Here.{IsNetHere, as_net_at}
use Rattle.yw_known.specs.declared.here.NetHere.{NetHere}
use Rattle.yw_library.specs.Holdings.{Holdings}
use Rattle.yw_open.specs.Opens.{AreOpens, IsHeldUnchosen}
use Rattle.yw_path.specs.Upstream.{IsUpstreamOf}
use Rattle.yw_spec.specs.declared.spec.Net.{Net}
use Rattle.yw_spec.specs.declared.spec.Spec.{Spec}
use Rattle.yw_spec.specs.declared.task.Task.{Task}
use Rattle.yw_state.proofs.Entries.{IsIn}
use Rattle.yw_state.specs.Identity.{Ident}
use Rattle.yw_state.specs.Joins.{NoWait}
use Rattle.yw_state.specs.Judged.{has_rules, task_place}
use Rattle.yw_state.specs.Map.{lexical}
use Rattle.yw_state.specs.State.{State, TaskAt, task_at}
use Rattle.yw_state.specs.declared.answer.What.TheVariants.{Enter}
use Rattle.yw_state.specs.declared.tree.TreeKind.TheVariants.{Select}
use Rattle.yw_task.specs.Standing.{NetStands}
use Rattle.yw_tree.specs.Entries.{net_part}
use Rattle.yw_tree.specs.Places.{net_at}
use Rattle.yw_tree.specs.declared.Forest.{Forest}
use Rattle.yw_tree.specs.declared.NetState.{NetState}
use Rattle.yw_within.specs.Within.{NetIsWithin}
use Rattle.yw_work.specs.Open.{by_role, may_enter}
use Rattle.yw_work.specs.declared.open.Open.{Open}

-- ---- one task

-- A person may enter the task of the net at i, whoever it is and whether or not work is held there.
pub record MayBeEntered (s : State) (i : Ident) (x : TaskAt) : Type 0 where
  pub may : may_enter s i x ≡ true
  pub goes : NoWait s i x

-- a tree chooses worklets for the task
abbrev pub is_chosen : State → TaskAt → Bool
is_chosen s x = has_rules s (task_place x Select)

-- the task with this number, as the definitions have it
abbrev pub task_of : (ℕ → List ℕ) → Net → NetState → ℕ → Task → TaskAt
task_of names net state t task = record { number = t; task = task; within = record { part = net_part names state; net = net } }

-- wherever the net stands, and worklets are chosen for its task with this number as is told, the answer is whether a person may enter it
abbrev pub EntersAs : Net → NetState → ℕ → Bool → Bool → Type 0
EntersAs net state t chosen answer =
    (names : ℕ → List ℕ) (f : Forest) (s : State) (i : Ident) (spec : Spec) (task : Task) → NetStands names f s i net state
    → NetIsWithin spec net → slice_get net.tasks t ≡ Some task → is_chosen s (task_of names net state t task) ≡ chosen
    → (answer ≡ true) ↔ MayBeEntered s i (task_of names net state t task)

-- the entry of a task is open
abbrev pub entry_of : Task → Open
entry_of t = record { task = t.name; what = Enter; by = by_role t.role }

-- ---- the first tasks of a net

abbrev pub name_of : Open → List ℕ
name_of o = o.task

-- It is the entry of one of the first n tasks of the net at i, which a person may enter.
pub record IsEntryBelow (s : State) (i : Ident) (n : ℕ) (o : Open) : Type 0 where
  pub of_task : TaskAt
  pub here : task_at s i of_task.task.name ≡ Some of_task
  pub below : of_task.number < n
  pub may : MayBeEntered s i of_task
  pub is : entry_of of_task.task ≡ o

-- Exactly the entries of the first n tasks of the net at i that a person may enter, no two under one name.
pub record AreEntries (s : State) (i : Ident) (n : ℕ) (opens : List Open) : Type 0 where
  pub exact : (o : Open) → IsIn opens o ↔ IsEntryBelow s i n o
  pub apart : IsDistinct (eq_by_cmp lexical) (map name_of opens)

-- the entry of the task comes at the end where a person may enter it, and else all stays
abbrev pub AddsIfOpen : State → Ident → TaskAt → List Open → List Open → Type 0
AddsIfOpen s i x old new =
    (MayBeEntered s i x × (new ≡ old ++ entry_of x.task ∷ [])) ⊎ ((MayBeEntered s i x → ⊥) × (new ≡ old))

-- ---- a net that is found

-- The net is within its specification, and the upstream is its own.
pub record IsKnownHere (h : NetHere) : Type 0 where
  pub within : NetIsWithin h.spec.now h.net.now
  pub upstream : IsUpstreamOf h.net.now h.up.now

-- What is known and the forest stand for this state, in which this is the net at i.
pub record StandsHere (known : Holdings) (f : Forest) (s : State) (i : Ident) (h : NetHere) : Type 0 where
  pub asked : IsHeldUnchosen known f s
  pub here : IsNetHere known f s i h

-- its task with this number, as the definitions have it
abbrev pub task_here : Holdings → NetHere → ℕ → Task → TaskAt
task_here known h t task = record { number = t; task = task; within = as_net_at known h }

-- wherever the net stands, the entry of its task with this number is added where it is open
abbrev pub AddsEntry : NetHere → ℕ → List Open → List Open → Type 0
AddsEntry h t old new =
    (known : Holdings) (f : Forest) (s : State) (i : Ident) (task : Task) → StandsHere known f s i h
    → slice_get h.net.now.tasks t ≡ Some task → AddsIfOpen s i (task_here known h t task) old new

-- wherever the net stands, these are the entries of its first n tasks
abbrev pub ListsBelow : NetHere → ℕ → List Open → Type 0
ListsBelow h n opens = (known : Holdings) (f : Forest) (s : State) (i : Ident) → StandsHere known f s i h → AreEntries s i n opens

-- wherever the net stands, this is what is open there
abbrev pub TellsNet : NetHere → List Open → Type 0
TellsNet h opens = (known : Holdings) (f : Forest) (s : State) (i : Ident) → StandsHere known f s i h → AreOpens s i opens

-- wherever it is the forest's net at j, this is what is open there
abbrev pub TellsState : Holdings → NetState → List Open → Type 0
TellsState known state opens =
    (f : Forest) (s : State) (j : Ident) → IsHeldUnchosen known f s → is_identity j ≡ true → net_at f j ≡ Some state → AreOpens s j opens
