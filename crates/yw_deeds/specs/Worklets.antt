-- What a worklet that begins or ends asks of the item at which it stands.
use Rattle.std.specs.Prelude.{◌≡◌, ◌&&◌, Bool, List, Some, length, nat_lt, not, ℕ}
use Rattle.yw_deeds.specs.Judging.{is_chosen}
use Rattle.yw_state.specs.Allowed.{comes_next, depth_end}
use Rattle.yw_state.specs.Identity.{Ident}
use Rattle.yw_state.specs.Joins.{at_output}
use Rattle.yw_state.specs.Judged.{has_rules, task_place}
use Rattle.yw_state.specs.Nets.{is_atomic}
use Rattle.yw_state.specs.Options.{is_some_and}
use Rattle.yw_state.specs.State.{ItemAt, State, item_at}
use Rattle.yw_state.specs.Words.{busy, clear, is_executing}
use Rattle.yw_state.specs.declared.part.Checks.{Checks}
use Rattle.yw_state.specs.declared.tree.TreeKind.TheVariants.{Post, Select}

-- the choice comes next, no worklet would stand too deep, and this one is chosen
abbrev pub substitutes : State → Ident → List ℕ → Bool
substitutes s j name = comes_next s j Select && nat_lt (length j) depth_end && is_chosen s j name

-- the item is at work, and of an atomic task
abbrev pub is_at_work : ItemAt → Bool
is_at_work x = is_executing x.part.stage && is_atomic x.of_task.task

-- a worklet is at its end there, and nothing holds work
abbrev pub is_at_end : State → Ident → Bool
is_at_end s j = clear s j && not (busy s j) && is_some_and (item_at s j) is_at_work && at_output s j

-- the check after the item at j is due exactly where its tree has a rule
abbrev pub IsPostDue : State → Ident → Checks → Type 0
IsPostDue s j due = (x : ItemAt) → item_at s j ≡ Some x → due.post ≡ has_rules s (task_place x.of_task Post)
