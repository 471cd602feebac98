-- What an entry finds first, and what it does.
use Rattle.std.specs.Prelude.{◌≡◌, ◌+◌, ◌≤◌, ◌&&◌, ◌++◌, ◌∷◌, ℕ, Bool, true, false, List, Option, Some, Result, Ok, Err, drop, length, not, slice_get, take}
use Rattle.yw_base.specs.Identity.{number_end}
use Rattle.yw_base.specs.declared.gate.Gate.{Gate}
use Rattle.yw_base.specs.declared.gate.Gate.TheVariants.{And, Xor, Or}
use Rattle.yw_mark.specs.Taking.{OfTask, taken_places}
use Rattle.yw_mark.specs.Tokens.{is_marked}
use Rattle.yw_mark.specs.declared.join.Taken.{Taken}
use Rattle.yw_mark.specs.declared.join.Taken.TheVariants.{All, One, Marked}
use Rattle.yw_spec.specs.declared.spec.Net.{Net}
use Rattle.yw_spec.specs.declared.spec.Place.{Place}
use Rattle.yw_spec.specs.declared.spec.Spec.{Spec}
use Rattle.yw_spec.specs.declared.task.Task.{Task}
use Rattle.yw_state.specs.After.{with_next, with_sites}
use Rattle.yw_state.specs.Allowed.{place_numbers}
use Rattle.yw_state.specs.Broken.{Check, First, enter_checks, test}
use Rattle.yw_state.specs.Events.{after}
use Rattle.yw_state.specs.Identity.{Ident}
use Rattle.yw_state.specs.Nets.{is_among}
use Rattle.yw_state.specs.State.{State}
use Rattle.yw_state.specs.Texts.{Said}
use Rattle.yw_state.specs.Values.{Row}
use Rattle.yw_state.specs.declared.event.Event.TheVariants as events
use Rattle.yw_state.specs.declared.part.Checks.{Checks}
use Rattle.yw_state.specs.declared.rule.Refusal.{Refusal}
use Rattle.yw_state.specs.declared.rule.Rule.{Rule}
use Rattle.yw_state.specs.declared.rule.Rule.TheVariants as rules
use Rattle.yw_task.specs.Asked.{AsksEnter, is_active}
use Rattle.yw_task.specs.Due.{AreDue}
use Rattle.yw_task.specs.Giving.{entry_rows}
use Rattle.yw_task.specs.Items.{NothingFrom}
use Rattle.yw_task.specs.Standing.{NetStands}
use Rattle.yw_task.specs.declared.fault.StepFault.{StepFault}
use Rattle.yw_task.specs.declared.fault.StepFault.TheVariants.{Memory, Refused}
use Rattle.yw_tree.specs.Forest.{IsForest, sites_of}
use Rattle.yw_tree.specs.Places.{placed_net}
use Rattle.yw_tree.specs.declared.Forest.{Forest}
use Rattle.yw_tree.specs.declared.NetState.{NetState, out-NetState}
use Rattle.yw_within.specs.Within.{NetIsWithin}

-- ---- from where a join takes

-- the choice is of the join's kind, and names no place but a marked one of these
abbrev pub is_choice : Gate → List ℕ → List ℕ → Taken → Bool
is_choice And marks before All = true
is_choice Xor marks before (One c) = is_marked marks c && is_among before c
is_choice Or marks before Marked = true
is_choice gate marks before taken = false

-- ---- the first broken rule

-- of the table, those from whether the task is active on; where the choice is none of the join's, the task isn't enabled either
abbrev pub enter_table : State → List ℕ → Ident → List ℕ → Bool → List Check
enter_table s who i t chosen =
    take 2 (drop 7 (enter_checks s who i t)) ++ (test (not chosen) rules.NotEnabled ∷ drop 9 (enter_checks s who i t))

-- wherever the net stands, whoever enters its task with this number, where first is the number that is drawn next
abbrev pub EnterBreaks : Net → NetState → ℕ → Taken → ℕ → Option Refusal → Type 0
EnterBreaks net state t taken first found =
    (names : ℕ → List ℕ) (f : Forest) (s : State) (i : Ident) (who : List ℕ) (spec : Spec) (task : Task)
    → NetStands names f s i net state → NetIsWithin spec net → slice_get net.tasks t ≡ Some task → s.next ≡ first
    → First (enter_table s who i task.name (is_choice task.join (out-NetState state).marks task.before taken)) found

-- what is broken, by what the net shows and by the choice
abbrev pub by_choice : Bool → Option Rule → Option Rule
by_choice true found = found
by_choice false (Some rules.Active) = Some rules.Active
by_choice false found = Some rules.NotEnabled

-- The rule is the first broken of those that the net and the choice show.
pub record Chooses (net : Net) (state : NetState) (t : ℕ) (taken : Taken) (found : Option Rule) : Type 0 where
  pub chosen : Bool
  pub choice : OfTask net t (λ task. is_choice task.join (out-NetState state).marks task.before taken ≡ chosen)
  pub shown : Option Rule
  pub asks : AsksEnter net state t shown
  pub same : found ≡ by_choice chosen shown

-- ---- what it does

-- The net stands at i, and the task is that with number t. Numbers are drawn from first on, and nothing stands there at one of them. The
-- checks are those that are due at its items as they come.
pub record MayGet (names : ℕ → List ℕ) (f : Forest) (s : State) (i : Ident) (net : Net) (state : NetState) (t first : ℕ) (due : Checks) (task : Task)
    : Type 0 where
  pub stands : NetStands names f s i net state
  pub spec : Spec
  pub within : NetIsWithin spec net
  pub task_is : slice_get net.tasks t ≡ Some task
  pub next : s.next ≡ first
  pub fresh : NothingFrom s.sites i first
  pub due_are : AreDue s i task.name due

-- The state has the map of the forest with the net new at i, and this number is drawn next; and that forest is well boxed.
pub record PlacesNet (names : ℕ → List ℕ) (f : Forest) (s t : State) (i : Ident) (new : NetState) (next : ℕ) : Type 0 where
  pub map : t ≡ with_next (with_sites s (sites_of names (placed_net f i new))) next
  pub kept : IsForest (placed_net f i new)

-- wherever the net stands, an entry that takes from these places and makes so many items puts new in its place
abbrev pub Enters : Net → NetState → Ident → ℕ → Taken → ℕ → Checks → NetState → ℕ → Type 0
Enters net old i t taken first due new count =
    (names : ℕ → List ℕ) (f : Forest) (s : State) (said : Said) (task : Task) (places : List Place)
    → MayGet names f s i net old t first due task → place_numbers net places ≡ Some (taken_places (out-NetState old).marks task.before taken)
    → PlacesNet names f s (after s (events.Enter i task.name places first count) said) i new (first + count)

-- ---- what is so of the net where nothing is tested

-- The net has the task with number t, which isn't active. Numbers from first on are left for the items that an entry makes.
pub record MayCome (net : Net) (state : NetState) (t first : ℕ) : Type 0 where
  pub task : Task
  pub of_net : slice_get net.tasks t ≡ Some task
  pub idle : is_active state t ≡ false
  pub numbers : first + length (entry_rows task (out-NetState state).vals) ≤ number_end

-- an entry gives its items these rows
abbrev pub AreEntryRows : Net → NetState → ℕ → List Row → Type 0
AreEntryRows net state t rows = (task : Task) → slice_get net.tasks t ≡ Some task → rows ≡ entry_rows task (out-NetState state).vals

-- ---- after a refusal

-- it holds after a refusal; want of memory says nothing
abbrev pub OnRefusal : {A : Type 0} → Result A StepFault → Type 0 → Type 0
OnRefusal (Ok x) P = Unit {0}
OnRefusal (Err (Refused refusal)) P = P
OnRefusal (Err Memory) P = Unit {0}
