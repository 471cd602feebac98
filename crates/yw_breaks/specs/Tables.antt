-- The checks of each command in two parts: those before the check that the case is quiet, and those behind it. They are pieces of the
-- tables of `yw_state`.
use Rattle.std.specs.Prelude.{◌∷◌, ℕ, [], Bool, List, None, Option, Some, drop, is_none, length, nat_le, not, option_and_then, take, unwrap_or}
use Rattle.yw_base.specs.declared.value.Value.{Value}
use Rattle.yw_state.specs.Automatic.{IsQuiet}
use Rattle.yw_state.specs.Broken.{Breaks, Check, First, bad_element, complete_checks, enter_checks, has_role, is_spent, placeless, start_checks, test, test_at, undefined_in}
use Rattle.yw_state.specs.Identity.{Ident}
use Rattle.yw_base.specs.Identity.{case_number}
use Rattle.yw_state.specs.Map.{get}
use Rattle.yw_state.specs.Options.{is_some_and}
use Rattle.yw_state.specs.State.{State, TaskAt, items_of, task_at}
use Rattle.yw_state.specs.Texts.{Reader}
use Rattle.yw_state.specs.Words.{active, held}
use Rattle.yw_state.specs.declared.command.Command.{Command}
use Rattle.yw_state.specs.declared.command.Given.{Given}
use Rattle.yw_state.specs.declared.rule.Refusal.{Refusal}
use Rattle.yw_state.specs.declared.rule.Rule.TheVariants as rules
use Rattle.yw_still.specs.Still.{SomethingComes}

-- ---- in front

-- of a command on an item
abbrev pub item_front : State → List ℕ → Ident → List Check
item_front s who j = take 2 (start_checks s who j)

-- of a command on a net
abbrev pub net_front : State → List ℕ → Ident → List Check
net_front s who i = take 2 (enter_checks s who i [])

-- ---- the parts

abbrev pub start_front : State → List ℕ → Ident → List Check
start_front s who j = take 2 (start_checks s who j)

abbrev pub start_rest : State → List ℕ → Ident → List Check
start_rest s who j = drop 3 (start_checks s who j)

abbrev pub enter_front : State → List ℕ → Ident → List ℕ → List Check
enter_front s who i t = take 2 (enter_checks s who i t)

abbrev pub enter_rest : State → List ℕ → Ident → List ℕ → List Check
enter_rest s who i t = drop 3 (enter_checks s who i t)

abbrev pub complete_front : State → List ℕ → Ident → List Given → List Check
complete_front s who j gs = take 2 (complete_checks s who j gs)

abbrev pub complete_rest : State → List ℕ → Ident → List Given → List Check
complete_rest s who j gs = drop 3 (complete_checks s who j gs)

-- but for the last, that an assignment is undefined
abbrev pub complete_most : State → List ℕ → Ident → List Given → List Check
complete_most s who j gs = take 6 (complete_rest s who j gs)

-- that of an addition has no name outside `yw_state`
abbrev pub add_front : State → List ℕ → Ident → List Check
add_front s who i = net_front s who i

abbrev lacks_role : State → List ℕ → TaskAt → Bool
lacks_role s who x = not (has_role (unwrap_or (get s.persons who) []) x.task.role)

abbrev is_full : State → Ident → TaskAt → Bool
is_full s i x = is_some_and x.task.many (λ m. nat_le m.max (length (items_of s i x.number)))

abbrev pub add_rest : State → List ℕ → Ident → List ℕ → Option Value → List Check
add_rest s who i t value =
    test (is_none (task_at s i t)) rules.UnknownTask
    ∷ test (is_some_and (task_at s i t) (λ x. not (is_some_and x.task.many (λ m. m.dynamic)))) rules.NotDynamic
    ∷ test (is_some_and (task_at s i t) (lacks_role s who)) rules.Role
    ∷ test (held s i) rules.Held
    ∷ test (is_some_and (task_at s i t) (λ x. not (active s i x.number))) rules.Stage
    ∷ test (is_some_and (task_at s i t) (is_full s i)) rules.MaxReached
    ∷ test_at (option_and_then (bad_element value) (task_at s i t)) rules.BadData
    ∷ test_at (option_and_then undefined_in (task_at s i t)) rules.Mapping
    ∷ test (is_spent s 1) rules.Numbers
    ∷ []

-- ---- the whole

-- What the parts find is what the command breaks first: what is broken before, else that something comes of itself in the case, else what is
-- broken behind.
pub record Joins (reader : Reader) (s : State) (c : Command) (j : Ident) (front rest : List Check) : Type 0 where
  pub in_front : (refusal : Refusal) → First front (Some refusal) → Breaks reader s c (Some refusal)
  pub moving : First front None → SomethingComes s (case_number j) → Breaks reader s c (Some (placeless rules.NotQuiet))
  pub behind : (found : Option Refusal) → First front None → IsQuiet s (case_number j) → First rest found → Breaks reader s c found
