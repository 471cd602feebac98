-- The values of an item are those of the definitions.
use Rattle.std.specs.Prelude.{◌≡◌, ℕ, List, Option, refl}
use Rattle.yw_rdr.specs.Item.{values_of}
use Rattle.yw_state.specs.Judged.{item_values}
use Rattle.yw_state.specs.State.{ItemAt, TaskAt}
use Rattle.yw_state.specs.Values.{Row}
use Rattle.yw_state.specs.declared.part.Stage.{Stage}
use Rattle.yw_state.specs.declared.part.Stage.TheVariants.{Ready, Executing, Completed}

abbrev item_of : ℕ → Row → Row → Option (List ℕ) → TaskAt → Stage → ItemAt
item_of task given made who t stage = record { part = record { task = task; stage = stage; given = given; made = made; who = who }; of_task = t }

by_stage : (task : ℕ) (given made : Row) (who : Option (List ℕ)) (t : TaskAt) (stage : Stage)
    → values_of t.task stage given made ≡ item_values (item_of task given made who t stage)
by_stage task given made who t Ready = refl
by_stage task given made who t Executing = refl
by_stage task given made who t Completed = refl

pub same_values : (x : ItemAt) → values_of x.of_task.task x.part.stage x.part.given x.part.made ≡ item_values x
same_values x = by_stage x.part.task x.part.given x.part.made x.part.who x.of_task x.part.stage
