-- Persons and their roles, by what is known.
use Rattle.std.specs.Prelude.{◌≡◌, ℕ, Bool, List, None, Option, Some, not, if◌then◌else◌}
use Rattle.yw_library.specs.Holdings.{Holdings, state_of}
use Rattle.yw_spec.specs.declared.task.Task.{Task}
use Rattle.yw_state.specs.Broken.{has_role}
use Rattle.yw_state.specs.Judged.{is_manual}
use Rattle.yw_state.specs.Map.{get}
use Rattle.yw_state.specs.Nets.{is_atomic}
use Rattle.yw_state.specs.State.{State, TaskAt}
use Rattle.yw_state.specs.declared.rule.Rule.{Rule}
use Rattle.yw_state.specs.declared.rule.Rule.TheVariants as rules

abbrev pub roles_of : Holdings → List ℕ → Option (List (List ℕ))
roles_of known who = get (state_of known).persons who

-- the person of this name has these roles
abbrev pub HasRoles : Holdings → List ℕ → List (List ℕ) → Type 0
HasRoles known who roles = roles_of known who ≡ Some roles

-- who has these roles hasn't the task's
abbrev pub lacks_role : List (List ℕ) → Task → Bool
lacks_role roles t = not (has_role roles t.role)

-- ---- what a task asks of a person

-- persons do each atomic task: no tree chooses worklets for it
abbrev pub PersonsDoAtomic : State → Type 0
PersonsDoAtomic s = (x : TaskAt) → is_manual s x ≡ is_atomic x.task

-- `ByItself`, `Role` or `Held`, by whether work is held there
abbrev pub worker_rule : List (List ℕ) → Task → Bool → Option Rule
worker_rule roles t held =
    if not (is_atomic t) then Some rules.ByItself else
    (if lacks_role roles t then Some rules.Role else (if held then Some rules.Held else None))

-- `UnknownCase`, if the case isn't there
abbrev pub case_rule : Bool → Option Rule
case_rule there = if not there then Some rules.UnknownCase else None
