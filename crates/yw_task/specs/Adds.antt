-- What an item that is added finds first, and what it does.
use Rattle.std.specs.Prelude.{◌≡◌, ◌+◌, ◌<◌, ℕ, Bool, IsSome, List, [], ◌∷◌, Option, Some, None, codes, is_none, length, nat_le, nat_lt, not, option_and_then, option_map, slice_get, if◌then◌else◌}
use Rattle.std.specs.Option.{option_or}
use Rattle.yw_base.specs.Identity.{number_end}
use Rattle.yw_base.specs.declared.value.Value.{Value}
use Rattle.yw_spec.specs.declared.spec.Net.{Net}
use Rattle.yw_spec.specs.declared.spec.Spec.{Spec}
use Rattle.yw_spec.specs.declared.task.Task.{Task}
use Rattle.yw_state.specs.Broken.{Check, First, is_spent, placed, placeless, test, test_at, undefined_in}
use Rattle.yw_state.specs.Events.{after}
use Rattle.yw_state.specs.Given.{element_value}
use Rattle.yw_state.specs.Identity.{Ident}
use Rattle.yw_state.specs.Options.{is_some_and}
use Rattle.yw_state.specs.Passing.{given_values}
use Rattle.yw_state.specs.State.{State, items_of, task_at}
use Rattle.yw_state.specs.Texts.{Said}
use Rattle.yw_state.specs.Values.{Row}
use Rattle.yw_state.specs.Words.{active}
use Rattle.yw_state.specs.declared.event.Event.TheVariants as events
use Rattle.yw_state.specs.declared.part.Checks.{Checks}
use Rattle.yw_state.specs.declared.rule.Refusal.{Refusal}
use Rattle.yw_state.specs.declared.rule.Rule.{Rule}
use Rattle.yw_state.specs.declared.rule.Rule.TheVariants as rules
use Rattle.yw_task.specs.Asked.{is_active}
use Rattle.yw_task.specs.Enters.{MayGet, PlacesNet}
use Rattle.yw_task.specs.Giving.{undefined_param}
use Rattle.yw_task.specs.Items.{row_of}
use Rattle.yw_task.specs.Standing.{NetStands}
use Rattle.yw_tree.specs.declared.Forest.{Forest}
use Rattle.yw_tree.specs.declared.NetState.{NetState, out-NetState}
use Rattle.yw_within.specs.Within.{NetIsWithin}

-- ---- the first broken rule

-- The checks of an addition behind those on the person, on rest and on suspension: whether the task is active, whether it has as many items
-- as it may have, the value, the other parameters, and whether a number is left. The definitions' own table has no name outside them;
-- `add_table_is` has that this is the end of it.
abbrev pub add_table : State → Ident → List ℕ → Value → List Check
add_table s i t value =
    test (is_some_and (task_at s i t) (λ x. not (active s i x.number))) rules.Stage
    ∷ test (is_some_and (task_at s i t) (λ x. is_some_and x.task.many (λ m. nat_le m.max (length (items_of s i x.number))))) rules.MaxReached
    ∷ test_at (option_and_then (λ x. if is_none (element_value x.task (Some value)) then Some (codes "value") else None) (task_at s i t)) rules.BadData
    ∷ test_at (option_and_then undefined_in (task_at s i t)) rules.Mapping
    ∷ test (is_spent s 1) rules.Numbers
    ∷ []

-- wherever the net stands, where n is the number that is drawn next
abbrev pub AddBreaks : Net → NetState → ℕ → Value → ℕ → Option Refusal → Type 0
AddBreaks net state t value n found =
    (names : ℕ → List ℕ) (f : Forest) (s : State) (i : Ident) (spec : Spec) (task : Task)
    → NetStands names f s i net state → NetIsWithin spec net → slice_get net.tasks t ≡ Some task → s.next ≡ n
    → First (add_table s i task.name value) found

-- ---- what is broken, by the net and the values at hand

-- the task has as many items as it may have
abbrev pub is_full : Task → ℕ → Bool
is_full task count = is_some_and task.many (λ m. nat_le m.max count)

abbrev pub room_rule : NetState → Task → ℕ → Option Rule
room_rule state task t =
    if not (is_active state t) then Some rules.Stage else (if is_full task (length (row_of state t)) then Some rules.MaxReached else None)

abbrev pub element_place : Task → Value → Option (List ℕ)
element_place task value = if is_none (element_value task (Some value)) then Some (codes "value") else None

abbrev pub number_rule : ℕ → Option Rule
number_rule n = if nat_lt number_end (n + 1) then Some rules.Numbers else None

-- of the value, the other parameters and the number
abbrev pub value_fault : Task → Row → Value → ℕ → Option Refusal
value_fault task vals value n =
    option_or (option_map (placed rules.BadData) (element_place task value))
    (option_or (option_map (placed rules.Mapping) (undefined_param task vals)) (option_map placeless (number_rule n)))

-- ---- the value

-- the value stands for an element, and an item is given this for it
pub record GivesRow (task : Task) (vals : Row) (value : Value) (row : Row) : Type 0 where
  pub element : Value
  pub stands : element_value task (Some value) ≡ Some element
  pub given : given_values task vals (Some element) ≡ Some row

-- ---- what it does

-- wherever the net stands, an addition for this element puts new in its place
abbrev pub AddsElement : Net → NetState → Ident → ℕ → Value → ℕ → Checks → NetState → Type 0
AddsElement net old i t element n due new =
    (names : ℕ → List ℕ) (f : Forest) (s : State) (said : Said) (task : Task) → MayGet names f s i net old t n due task
    → PlacesNet names f s (after s (events.Add i task.name element n) said) i new (n + 1)

-- the same of the element that the value stands for
abbrev pub Adds : Net → NetState → Ident → ℕ → Value → ℕ → Checks → NetState → Type 0
Adds net old i t value n due new =
    (names : ℕ → List ℕ) (f : Forest) (s : State) (said : Said) (task : Task) (element : Value)
    → MayGet names f s i net old t n due task → element_value task (Some value) ≡ Some element
    → PlacesNet names f s (after s (events.Add i task.name element n) said) i new (n + 1)

-- ---- what is so of the net where nothing is tested

-- The net has the task with number t, each parameter of which has a value for this element, and number n is left.
pub record MayComeMore (net : Net) (state : NetState) (t : ℕ) (element : Value) (n : ℕ) : Type 0 where
  pub task : Task
  pub of_net : slice_get net.tasks t ≡ Some task
  pub given : IsSome (given_values task (out-NetState state).vals (Some element))
  pub number : n < number_end
