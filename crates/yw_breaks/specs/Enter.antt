-- What an entry breaks first behind the check that the case is quiet, where the net has the task.
use Rattle.std.specs.Prelude.{◌+◌, ◌≡◌, ℕ, List, None, Option, Some, Result, Ok, Err, Vec, drop, false, is_some, length, nat_le, slice_get, true}
use Rattle.std.specs.List.{All}
use Rattle.std.specs.declared.alloc.Global.{Global}
use Rattle.yw_base.specs.Identity.{number_end}
use Rattle.yw_breaks.specs.Finds.{FindsManual}
use Rattle.yw_breaks.specs.Nets.{IsTaskNamed}
use Rattle.yw_breaks.specs.Persons.{HasRoles, PersonsDoAtomic}
use Rattle.yw_breaks.specs.Tables.{enter_rest}
use Rattle.yw_breaks.specs.declared.asked.EntryAsked.{EntryAsked}
use Rattle.yw_library.specs.Held.{IsHeld}
use Rattle.yw_known.specs.Here.{IsNetHere, SaysNet}
use Rattle.yw_known.specs.declared.here.NetHere.{NetHere}
use Rattle.yw_library.specs.Holdings.{Holdings}
use Rattle.yw_mark.specs.Taking.{Chooses, HasTokens, OfTask}
use Rattle.yw_mark.specs.declared.join.Taken.{Taken}
use Rattle.yw_spec.specs.declared.task.Param.{Param}
use Rattle.yw_spec.specs.declared.task.Task.{Task}
use Rattle.yw_state.specs.Broken.{First, enter_checks}
use Rattle.yw_state.specs.Identity.{Ident}
use Rattle.yw_state.specs.Passing.{entry_values, within_bounds}
use Rattle.yw_state.specs.State.{State}
use Rattle.yw_state.specs.Values.{Row}
use Rattle.yw_state.specs.declared.rule.Refusal.{Refusal}
use Rattle.yw_state.specs.declared.rule.Rule.{Rule}
use Rattle.yw_task.specs.Asked.{AsksEnter, OrWaitsAs, is_active}
use Rattle.yw_task.specs.Giving.{entry_fault, entry_rows}
use Rattle.yw_tree.specs.declared.Forest.{Forest}
use Rattle.yw_tree.specs.declared.NetState.{out-NetState}

-- a parameter without an expression is given an element, so there is a list
abbrev pub IsFed : Task → Type 0
IsFed task = All (λ (p : Param). p.value ≡ None → is_some task.many ≡ true) task.ins

-- where the net stands at i in this forest, whoever with these roles enters its task with this number, where this number is drawn next
abbrev pub EnterBreaks : Forest → Ident → List (List ℕ) → NetHere → ℕ → ℕ → Option Refusal → Type 0
EnterBreaks f i roles h t next found =
    (known : Holdings) (who : List ℕ) → HasRoles known who roles
    → (s : State) (task : Task) → IsHeld known f s → PersonsDoAtomic s → s.next ≡ next → IsNetHere known f s i h
    → slice_get h.net.now.tasks t ≡ Some task → First (drop 4 (enter_checks s who i task.name)) found

-- ---- a task that may be entered

-- Nothing that the net shows keeps the task with this number from being entered, and its join takes by this choice.
pub record IsChosen (h : NetHere) (t : ℕ) (taken : Taken) : Type 0 where
  pub asks : AsksEnter h.net.now h.state.now t None
  pub idle : is_active h.state.now t ≡ false
  pub chooses : OfTask h.net.now t (λ task. Chooses (out-NetState h.state.now).marks task taken)
  pub tokens : OfTask h.net.now t (λ task. HasTokens (out-NetState h.state.now).marks task true)
  pub goes : OfTask h.net.now t (λ task. OrWaitsAs h.net.now h.state.now task false)

-- so it is, or this rule is the first that the net shows
abbrev pub FindsChosen : NetHere → ℕ → Result Taken Rule → Type 0
FindsChosen h t (Ok taken) = IsChosen h t taken
FindsChosen h t (Err rule) = AsksEnter h.net.now h.state.now t (Some rule)

-- What items are given is defined. They are as many as may come, numbered from this on.
pub record ItemsFit (task : Task) (vals : Row) (next : ℕ) : Type 0 where
  pub rows : List Row
  pub are : entry_values task vals ≡ Some rows
  pub bounds : within_bounds task.many (length rows) ≡ true
  pub room : nat_le (next + length rows) number_end ≡ true

-- These rows are what items are given, and nothing keeps so many from coming, numbered from this on.
pub record AreGiven (task : Task) (vals : Row) (next : ℕ) (rows : List Row) : Type 0 where
  pub unbroken : None ≡ entry_fault task vals next
  pub fit : ItemsFit task vals next
  pub gives : rows ≡ entry_rows task vals

-- so it is; or this keeps items from coming
abbrev pub FindsRows : Task → Row → ℕ → Result (Vec Row Global) Refusal → Type 0
FindsRows task vals next (Ok rows) = AreGiven task vals next rows.items
FindsRows task vals next (Err refusal) = Some refusal ≡ entry_fault task vals next

-- The task with this number may be entered, its join takes by this choice, and its items are given these rows.
pub record IsEnterable (h : NetHere) (t next : ℕ) (taken : Taken) (rows : List Row) : Type 0 where
  pub chosen : IsChosen h t taken
  pub task : Task
  pub at : slice_get h.net.now.tasks t ≡ Some task
  pub fit : ItemsFit task (out-NetState h.state.now).vals next
  pub gives : rows ≡ entry_rows task (out-NetState h.state.now).vals

-- so it is, and no rule is broken where the net stands at i; or this is the first that is
abbrev pub EntersBy : Forest → Ident → List (List ℕ) → NetHere → ℕ → ℕ → Result (Taken × Vec Row Global) Refusal → Type 0
EntersBy f i roles h t next (Ok p) = EnterBreaks f i roles h t next None × IsEnterable h t next p.0 p.1.items
EntersBy f i roles h t next (Err refusal) = EnterBreaks f i roles h t next (Some refusal)

-- this is the first of the checks behind that is broken, where the net stands at i, whoever with these roles enters its task of this name
abbrev pub EnterFinds : Forest → List (List ℕ) → NetHere → ℕ → Ident → List ℕ → Option Refusal → Type 0
EnterFinds f roles h next i name found =
    (known : Holdings) (who : List ℕ) → HasRoles known who roles → SaysNet known f i h → FindsManual known f next (λ s. enter_rest s who i name) found

-- None is broken. The task of this name may be entered so.
pub record IsEntryAsked (f : Forest) (roles : List (List ℕ)) (h : NetHere) (next : ℕ) (i : Ident) (name : List ℕ) (x : EntryAsked) : Type 0 where
  pub unbroken : EnterFinds f roles h next i name None
  pub named : IsTaskNamed h.net.now name x.task
  pub enterable : IsEnterable h x.task next x.taken x.rows.items

-- so it is, or this is the first that is
abbrev pub EnterMakes : Forest → List (List ℕ) → NetHere → ℕ → Ident → List ℕ → Result EntryAsked Refusal → Type 0
EnterMakes f roles h next i name (Ok x) = IsEntryAsked f roles h next i name x
EnterMakes f roles h next i name (Err refusal) = EnterFinds f roles h next i name (Some refusal)
