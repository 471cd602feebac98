-- A net: its nodes are the places and the tasks, and flows go from places to tasks and from tasks to places.
-- The paper's extended workflow net, with an implicit place in each flow from a task to a task.
use Rattle.std.specs.Prelude.{ℕ, List, [], ◌++◌, Contains, codes, slice_get}
use Rattle.std.specs.Option.{option_map_or}
use Rattle.yw_reach.specs.Walks.{PathAlong}
use Rattle.yw_spec.specs.declared.spec.Net.{Net}
use Rattle.yw_spec.specs.declared.spec.Place.{Place}
use Rattle.yw_spec.specs.declared.spec.Place.TheVariants.{Named, Between}
use Rattle.yw_spec.specs.declared.task.Task.{Task}

-- the implicit place of a flow, as a text: `t->u`
abbrev pub arrow_text : List ℕ → List ℕ → List ℕ
arrow_text from to = from ++ codes "->" ++ to

-- a condition's name, or the text of an implicit place
abbrev pub place_text : Place → List ℕ
place_text (Named name) = name
place_text (Between from to) = arrow_text from to

-- a place or a task, by its number in the net
pub data Node : Type 0 where
  at_place : (k : ℕ) → Node
  at_task : (t : ℕ) → Node

-- the places from which flows lead to a task
abbrev pub places_before : Net → ℕ → List ℕ
places_before net t = option_map_or (λ (task : Task). task.before) (slice_get net.tasks t) []

-- the places to which flows lead from a task
abbrev pub places_after : Net → ℕ → List ℕ
places_after net t = option_map_or (λ (task : Task). task.after) (slice_get net.tasks t) []

-- a flow goes from one node to the other
abbrev pub HasFlow : Net → Node → Node → Type 0
HasFlow net (at_place k) (at_task t) = Contains (places_before net t) k
HasFlow net (at_task t) (at_place k) = Contains (places_after net t) k
HasFlow net (at_place k) (at_place j) = ⊥
HasFlow net (at_task t) (at_task u) = ⊥

-- the second node is reached from the first by flows, or is the same
abbrev pub Path : Net → Node → Node → Type 0
Path net = PathAlong (HasFlow net)
