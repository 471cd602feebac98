-- A task's items go, its net's values become others, its removal set is emptied, and tokens come, wherever the net stands.
use Rattle.std.specs.Prelude.{◌≤◌, ℕ, List}
use Rattle.std.specs.List.{All}
use Rattle.yw_sites.specs.Entries.{Entries}
use Rattle.yw_spec.specs.declared.task.Task.{Task}
use Rattle.yw_state.specs.After.{empty_region, produce, set_values, without_items}
use Rattle.yw_state.specs.Allowed.{most_tokens}
use Rattle.yw_state.specs.Identity.{Ident}
use Rattle.yw_state.specs.State.{State, tokens_on}
use Rattle.yw_state.specs.Values.{Row}
use Rattle.yw_task.specs.Turning.{HasCome, StaysBeside}
use Rattle.yw_tree.specs.declared.NetState.{NetState}

-- the items of the task with this number gone, the net's values these, and the task's removal set emptied
abbrev pub emptied : Ident → State → ℕ → Row → Task → State
emptied i s t vals task = empty_region (set_values (without_items i s t) i vals) i task

-- and then a token on each of these places, where none of them has too many
abbrev pub Leaves : Task → ℕ → Row → List ℕ → NetState → NetState → Type 0
Leaves task t vals places old new =
    (names : ℕ → List ℕ) (i : Ident) (others : List Ident) (beside : Entries) (before s : State) → StaysBeside i others beside
    → HasCome names i others beside before s old → All (λ c. tokens_on (emptied i s t vals task) i c ≤ most_tokens) places
    → HasCome names i others beside before (produce (emptied i s t vals task) i places) new
