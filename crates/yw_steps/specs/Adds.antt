-- What the addition of an item does to the forest.
use Rattle.std.specs.Prelude.{◌≡◌, ◌+◌, ℕ, Some, slice_get}
use Rattle.yw_base.specs.declared.value.Value.{Value}
use Rattle.yw_spec.specs.declared.spec.Net.{Net}
use Rattle.yw_spec.specs.declared.task.Task.{Task}
use Rattle.yw_state.specs.After.{with_next}
use Rattle.yw_state.specs.Identity.{Ident}
use Rattle.yw_state.specs.declared.event.Event.TheVariants as events
use Rattle.yw_state.specs.declared.part.Checks.{Checks}
use Rattle.yw_steps.specs.Stands.{DoesWhere, MayGetItems}
use Rattle.yw_task.specs.Adds.{MayComeMore}
use Rattle.yw_tree.specs.Places.{net_at}
use Rattle.yw_tree.specs.declared.Forest.{Forest}
use Rattle.yw_tree.specs.declared.NetState.{NetState}

-- the task with number t has one item more, numbered n, for this element
abbrev pub AddsElement : Net → Ident → ℕ → Value → ℕ → Checks → Forest → Forest → Type 0
AddsElement net i t element n due old new =
    (task : Task) → slice_get net.tasks t ≡ Some task
    → DoesWhere (λ names. events.Add i task.name element n) (λ names. MayGetItems net i n due task) (λ s. with_next s (n + 1)) old new

-- what is so of the net at i where nothing is tested
abbrev pub MayComeMoreAt : Forest → Net → Ident → ℕ → Value → ℕ → Type 0
MayComeMoreAt f net i t element n = (state : NetState) → net_at f i ≡ Some state → MayComeMore net state t element n
