-- What has trees, by its numbers, and what its names are. Our own.
use Rattle.std.specs.Prelude.{◌≡◌, ℕ, List, Option, Some, None, option_and_then, option_map, position, slice_get, true, if◌then◌else◌}
use Rattle.std.specs.Str.{bytes_eq}
use Rattle.yw_trees.specs.declared.owner.Owner.{Owner}
use Rattle.yw_trees.specs.declared.owner.Owner.TheVariants.{Cases, Task}
use Rattle.yw_spec.specs.declared.spec.Net.{Net}
use Rattle.yw_spec.specs.declared.spec.Spec.{Spec}
use Rattle.yw_spec.specs.declared.task.Task as tasks
use Rattle.yw_state.specs.Judged.{case_place, is_tree_place}
use Rattle.yw_state.specs.Nets.{task_number}
use Rattle.yw_state.specs.declared.loaded.Loaded.{Loaded}
use Rattle.yw_state.specs.declared.tree.TreeKind.{TreeKind}
use Rattle.yw_state.specs.declared.tree.TreePlace.{TreePlace}

-- ---- by name

abbrev pub net_number : Spec → List ℕ → Option ℕ
net_number spec name = position (λ (n : Net). bytes_eq n.name name) spec.nets

-- the task of the net with this number, by its name
abbrev pub numbered_task : ℕ → Spec → List ℕ → ℕ → Option Owner
numbered_task k spec task n = option_and_then (λ (net : Net). option_map (λ t. Task k n t) (task_number net task)) (slice_get spec.nets n)

abbrev pub by_names : ℕ → Spec → Option (List ℕ) → Option (List ℕ) → Option Owner
by_names k spec None None = Some (Cases k)
by_names k spec (Some net) (Some task) = option_and_then (numbered_task k spec task) (net_number spec net)
by_names k spec net task = None

-- what has the tree at the place, in the specification with this number
abbrev pub owner_in : ℕ → Spec → TreePlace → Option Owner
owner_in k spec p = by_names k spec p.net p.task

-- where the trees of a task stand
abbrev pub at_task : Spec → List ℕ → List ℕ → TreeKind → TreePlace
at_task spec net task kind = record { spec = spec.name; net = Some net; task = Some task; kind = kind }

-- what has it, where it may stand there
abbrev pub may_own : ℕ → Spec → TreePlace → Option Owner
may_own k spec p = if is_tree_place spec p then owner_in k spec p else None

-- ---- among the specifications that are loaded

-- no two have one name
abbrev pub SpecsApart : List Loaded → Type 0
SpecsApart specs = (i j : ℕ) (l m : Loaded) → slice_get specs i ≡ Some l → slice_get specs j ≡ Some m → l.spec.name ≡ m.spec.name → i ≡ j

-- the number of its specification
abbrev pub spec_number : Owner → ℕ
spec_number (Cases k) = k
spec_number (Task k n t) = k

-- The place is named after it: its specification has the place's name, and the net and the task that are named have its numbers.
pub record IsNamed (specs : List Loaded) (owner : Owner) (p : TreePlace) : Type 0 where
  pub loaded : Loaded
  pub numbered : slice_get specs (spec_number owner) ≡ Some loaded
  pub named : loaded.spec.name ≡ p.spec
  pub here : owner_in (spec_number owner) loaded.spec p ≡ Some owner

-- And a tree may stand there.
pub record Owns (specs : List Loaded) (owner : Owner) (p : TreePlace) : Type 0 where
  pub is : IsNamed specs owner p
  pub may : is_tree_place is.loaded.spec p ≡ true

-- ---- the places that are named after all that are loaded

-- the cases of each specification have the trees at its name
abbrev pub NamesCases : List Loaded → Type 0
NamesCases specs = (k : ℕ) (l : Loaded) (kind : TreeKind) → slice_get specs k ≡ Some l → IsNamed specs (Cases k) (case_place l.spec.name kind)

-- each task has those at the names of its specification, of its net, and its own
abbrev pub NamesTasks : List Loaded → Type 0
NamesTasks specs =
    (k n t : ℕ) (l : Loaded) (net : Net) (task : tasks.Task) (kind : TreeKind) → slice_get specs k ≡ Some l → slice_get l.spec.nets n ≡ Some net
    → slice_get net.tasks t ≡ Some task
    → IsNamed specs (Task k n t) (at_task l.spec net.name task.name kind)
