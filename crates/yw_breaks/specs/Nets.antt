-- What is so of a net that is found, whatever the state, and of a task by its name.
use Rattle.std.specs.Prelude.{◌≡◌, ◌<◌, ℕ, List, Some, length, slice_get}
use Rattle.yw_known.specs.declared.here.NetHere.{NetHere}
use Rattle.yw_path.specs.Upstream.{IsUpstreamOf}
use Rattle.yw_spec.specs.declared.spec.Net.{Net}
use Rattle.yw_spec.specs.declared.task.Task.{Task}
use Rattle.yw_state.specs.Nets.{task_number}
use Rattle.yw_within.specs.Within.{NetIsWithin}

-- The net is within, and the upstream is its own.
pub record IsWithinHere (h : NetHere) : Type 0 where
  pub within : NetIsWithin h.spec.now h.net.now
  pub upstream : IsUpstreamOf h.net.now h.up.now

-- The task with this number has the name, and none before it has.
pub record IsTaskNamed (net : Net) (name : List ℕ) (t : ℕ) : Type 0 where
  pub task : Task
  pub at : slice_get net.tasks t ≡ Some task
  pub named : task.name ≡ name
  pub below : t < length net.tasks
  pub number : task_number net name ≡ Some t
