-- What is looked at to see whether an identity is still. Our own.
use Rattle.std.specs.Prelude.{◌≡◌, ◌≤◌, ℕ, Option, option_map, true}
use Rattle.yw_spec.specs.declared.task.Task.{Task}
use Rattle.yw_state.specs.Identity.{Ident, is_child}
use Rattle.yw_base.specs.Identity.{case_number}
use Rattle.yw_state.specs.Judged.{is_manual}
use Rattle.yw_state.specs.State.{State, ItemAt, ItemPart, TaskAt, due_at, item_at, items_of, net_at, net_part, run_part}
use Rattle.yw_state.specs.Words.{busy, clear, done, urgent}
use Rattle.yw_state.specs.declared.part.Stage.{Stage}

-- the stage of the item at j, and its task
abbrev pub stage_and_task : State → Ident → Option (Stage × Task)
stage_and_task s j = option_map (λ (x : ItemAt). (x.part.stage, x.of_task.task)) (item_at s j)

-- At j the same net, run and checks stand in both states, and an item of the same task at the same stage; the same items stand in the net
-- there and count alike, the same tasks are left to persons, and the case is held and urgent alike. As many numbers are drawn in the second,
-- or more.
pub record LooksSame (s t : State) (j : Ident) : Type 0 where
  pub due : due_at t j ≡ due_at s j
  pub run : run_part t j ≡ run_part s j
  pub item : stage_and_task t j ≡ stage_and_task s j
  pub part : net_part t j ≡ net_part s j
  pub net : net_at t j ≡ net_at s j
  pub items : (k : ℕ) → items_of t j k ≡ items_of s j k
  pub done : (i : Ident) (x : ItemPart) → is_child i j ≡ true → done t i x ≡ done s i x
  pub manual : (x : TaskAt) → is_manual t x ≡ is_manual s x
  pub busy : busy t j ≡ busy s j
  pub clear : clear t j ≡ clear s j
  pub urgent : urgent t (case_number j) ≡ urgent s (case_number j)
  pub next : s.next ≤ t.next
