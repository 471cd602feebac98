-- What a specification has under its names, and which kinds its tasks are of. Nets, tasks and their decompositions are the paper's;
-- that they go by numbers, and the kind of an empty task, is our own.
use Rattle.std.specs.Prelude.{ℕ, ◌&&◌, Bool, true, false, List, Option, Some, None, position, slice_get, option_and_then, nat_eq}
use Rattle.std.specs.List.{list_any}
use Rattle.std.specs.Str.{bytes_eq}
use Rattle.yw_spec.specs.declared.spec.Net.{Net}
use Rattle.yw_spec.specs.declared.spec.Place.{Place}
use Rattle.yw_spec.specs.declared.spec.Place.TheVariants.{Named, Between}
use Rattle.yw_spec.specs.declared.spec.Spec.{Spec}
use Rattle.yw_spec.specs.declared.task.Kind.{Kind}
use Rattle.yw_spec.specs.declared.task.Kind.TheVariants as kinds
use Rattle.yw_spec.specs.declared.task.Task.{Task}

abbrev pub is_among : List ℕ → ℕ → Bool
is_among ns n = list_any (nat_eq n) ns

-- ---- by name

abbrev pub same_place : Place → Place → Bool
same_place (Named a) (Named b) = bytes_eq a b
same_place (Between a b) (Between c d) = bytes_eq a c && bytes_eq b d
same_place p q = false

abbrev pub place_number : Net → Place → Option ℕ
place_number net p = position (same_place p) net.places

abbrev pub task_number : Net → List ℕ → Option ℕ
task_number net name = position (λ (t : Task). bytes_eq t.name name) net.tasks

abbrev pub task_called : Net → List ℕ → Option Task
task_called net name = option_and_then (slice_get net.tasks) (task_number net name)

abbrev pub net_called : Spec → List ℕ → Option Net
net_called spec name = option_and_then (slice_get spec.nets) (position (λ (n : Net). bytes_eq n.name name) spec.nets)

-- a case's own net
abbrev pub top_net : Spec → Option Net
top_net spec = slice_get spec.nets spec.top

-- ---- kinds

abbrev atomic_kind : Kind → Bool
atomic_kind kinds.Atomic = true
atomic_kind kind = false

abbrev empty_kind : Kind → Bool
empty_kind kinds.Empty = true
empty_kind kind = false

abbrev child_of_kind : Kind → Option ℕ
child_of_kind (kinds.Sub k) = Some k
child_of_kind kind = None

abbrev pub is_atomic : Task → Bool
is_atomic t = atomic_kind t.kind

abbrev pub is_empty : Task → Bool
is_empty t = empty_kind t.kind

-- the number of a composite task's child net
abbrev pub child_net : Task → Option ℕ
child_net t = child_of_kind t.kind
