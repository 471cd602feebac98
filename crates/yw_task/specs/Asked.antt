-- Which checks of a command an item shows, and which of these is the first that is broken.
use Rattle.std.specs.Prelude.{◌≡◌, ◌<◌, ◌↔◌, ◌⊎◌, ℕ, Bool, IsTrue, List, Option, Some, None, drop, false, true, get_or, length, nat_lt, slice_get, take, is_some, not, option_map, if◌then◌else◌}
use Rattle.std.specs.Str.{bytes_eq}
use Rattle.yw_base.specs.Gates.{is_or}
use Rattle.yw_path.specs.Waiting.{MayFill}
use Rattle.yw_spec.specs.declared.spec.Net.{Net}
use Rattle.yw_spec.specs.declared.spec.Spec.{Spec}
use Rattle.yw_spec.specs.declared.task.Task.{Task}
use Rattle.yw_state.specs.Broken.{Check, First, complete_checks, enter_checks, placeless, start_checks}
use Rattle.yw_state.specs.Identity.{Ident}
use Rattle.yw_state.specs.Options.{is_some_and}
use Rattle.yw_state.specs.State.{ItemAt, State, item_at}
use Rattle.yw_state.specs.Words.{is_executing, is_ready}
use Rattle.yw_state.specs.declared.command.Given.{Given}
use Rattle.yw_state.specs.declared.rule.Rule.{Rule}
use Rattle.yw_state.specs.declared.rule.Rule.TheVariants as rules
use Rattle.yw_task.specs.Standing.{ItemStands, NetStands}
use Rattle.yw_tree.specs.Shows.{row_or_none}
use Rattle.yw_tree.specs.declared.Forest.{Forest}
use Rattle.yw_tree.specs.declared.NetState.{NetState, out-NetState}
use Rattle.yw_tree.specs.declared.Node.{Node, out-Node}
use Rattle.yw_within.specs.Within.{NetIsWithin}

-- ---- of the table of a command's checks, those on what the item is

-- its stage, and whether it is busy
abbrev pub start_shown : State → List ℕ → Ident → List Check
start_shown s who j = drop 6 (start_checks s who j)

-- its stage, who started it, and whether it is busy
abbrev pub complete_shown : State → List ℕ → Ident → List Given → List Check
complete_shown s who j gs = take 3 (drop 5 (complete_checks s who j gs))

-- whether the task is active, whether its join lacks tokens, and whether an OR-join waits
abbrev pub enter_shown : State → List ℕ → Ident → List ℕ → List Check
enter_shown s who i t = take 3 (drop 7 (enter_checks s who i t))

-- ---- what is broken, by the item alone

abbrev pub or_busy : Node → Option Rule
or_busy n = if is_some (out-Node n).run then Some rules.Busy else None

abbrev pub start_fault : Node → Option Rule
start_fault n = if not (is_ready (out-Node n).stage) then Some rules.Stage else or_busy n

-- another person started it
abbrev pub is_others : List ℕ → Option (List ℕ) → Bool
is_others who started = is_some_and started (λ name. not (bytes_eq name who))

abbrev pub complete_fault : Node → List ℕ → Option Rule
complete_fault n who =
    if not (is_executing (out-Node n).stage) then Some rules.Stage else (if is_others who (out-Node n).who then Some rules.NotYours else or_busy n)

-- ---- that this is the first of the table

-- wherever the item stands with its task, whoever starts it
abbrev pub AsksStart : Node → Option Rule → Type 0
AsksStart n found =
    (names : ℕ → List ℕ) (f : Forest) (s : State) (x : ItemAt) (who : List ℕ) → ItemStands names f s n → item_at s (out-Node n).id ≡ Some x
    → First (start_shown s who (out-Node n).id) (option_map placeless found)

-- wherever the item stands with its task, whatever values are given
abbrev pub AsksComplete : Node → List ℕ → Option Rule → Type 0
AsksComplete n who found =
    (names : ℕ → List ℕ) (f : Forest) (s : State) (x : ItemAt) (gs : List Given) → ItemStands names f s n → item_at s (out-Node n).id ≡ Some x
    → First (complete_shown s who (out-Node n).id gs) (option_map placeless found)

-- ---- of a net

-- items of the task stand in the net
abbrev pub is_active : NetState → ℕ → Bool
is_active state t = nat_lt 0 (length (row_or_none (slice_get (out-NetState state).items.items t)))

-- so many tasks are active as these say
abbrev pub AreActive : NetState → ℕ → List Bool → Type 0
AreActive state count actives = (t : ℕ) → t < count → is_active state t ≡ get_or actives t false

-- The answer is whether a token may still come to an empty input place of the task, where these tasks are active.
pub record FillsAs (net : Net) (state : NetState) (task : Task) (answer : Bool) : Type 0 where
  pub actives : List Bool
  pub active : AreActive state (length net.tasks) actives
  pub same : IsTrue answer ↔ MayFill net task (out-NetState state).marks actives

-- whether it is an OR-join that waits
abbrev pub OrWaitsAs : Net → NetState → Task → Bool → Type 0
OrWaitsAs net state task true = IsTrue (is_or task.join) × FillsAs net state task true
OrWaitsAs net state task false = (is_or task.join ≡ false) ⊎ FillsAs net state task false

-- wherever the net stands, whoever enters its task with this number
abbrev pub AsksEnter : Net → NetState → ℕ → Option Rule → Type 0
AsksEnter net state t found =
    (names : ℕ → List ℕ) (f : Forest) (s : State) (i : Ident) (who : List ℕ) (spec : Spec) (task : Task)
    → NetStands names f s i net state → NetIsWithin spec net → slice_get net.tasks t ≡ Some task → First (enter_shown s who i task.name) (option_map placeless found)
