-- What is told of trees by numbers, in each state that is held.
use Rattle.std.specs.Prelude.{◌≡◌, ℕ, Bool, Some, slice_get}
use Rattle.yw_library.specs.Held.{IsHeld}
use Rattle.yw_library.specs.Holdings.{Holdings}
use Rattle.yw_spec.specs.declared.task.Task as tasks
use Rattle.yw_state.specs.After.{case_checks, item_checks}
use Rattle.yw_state.specs.Judged.{has_rules, task_place}
use Rattle.yw_state.specs.State.{State, TaskAt}
use Rattle.yw_state.specs.declared.loaded.Loaded.{Loaded}
use Rattle.yw_state.specs.declared.part.Checks.{Checks}
use Rattle.yw_state.specs.declared.tree.TreeKind.{TreeKind}
use Rattle.yw_state.specs.declared.tree.TreeKind.TheVariants.{Select}
use Rattle.yw_state.specs.declared.tree.TreePlace.{TreePlace}
use Rattle.yw_tree.specs.declared.Forest.{Forest}
use Rattle.yw_trees.specs.Owners.{IsNamed}
use Rattle.yw_trees.specs.declared.owner.Owner.{Owner}

-- Task t of net n of specification k is this one, as the definitions have it.
pub record IsTaskNumbered (known : Holdings) (k n t : ℕ) (x : TaskAt) : Type 0 where
  pub loaded : Loaded
  pub numbered : slice_get known.specs k ≡ Some loaded
  pub named : loaded.spec.name ≡ x.within.part.spec
  pub of_spec : slice_get loaded.spec.nets n ≡ Some x.within.net
  pub of_net : slice_get x.within.net.tasks t ≡ Some x.task

-- whether the tree of this kind has a rule, at the place that is named after what has it
abbrev pub TellsTree : Holdings → Owner → TreeKind → Bool → Type 0
TellsTree known owner kind has =
    (f : Forest) (s : State) (p : TreePlace) → IsHeld known f s → IsNamed known.specs owner p → p.kind ≡ kind → has ≡ has_rules s p

-- whether a tree chooses worklets for the task
abbrev pub TellsChosen : Holdings → ℕ → ℕ → ℕ → Bool → Type 0
TellsChosen known k n t has =
    (f : Forest) (s : State) (x : TaskAt) → IsHeld known f s → IsTaskNumbered known k n t x → has ≡ has_rules s (task_place x Select)

-- what is due at a case of the specification as it begins
abbrev pub TellsCaseChecks : Holdings → ℕ → Checks → Type 0
TellsCaseChecks known k checks =
    (f : Forest) (s : State) (l : Loaded) → IsHeld known f s → slice_get known.specs k ≡ Some l → checks ≡ case_checks s l.spec.name

-- what is due at an item of the task as it comes
abbrev pub TellsItemChecks : Holdings → ℕ → ℕ → ℕ → tasks.Task → Checks → Type 0
TellsItemChecks known k n t task checks =
    (f : Forest) (s : State) (x : TaskAt) → IsHeld known f s → IsTaskNumbered known k n t x → x.task ≡ task → checks ≡ item_checks s x
