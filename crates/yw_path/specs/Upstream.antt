-- What is kept of a net's paths.
use Rattle.std.specs.Prelude.{◌≡◌, ◌<◌, ◌||◌, ℕ, Bool, false, List, [], length, map, option_and_then, slice_get, unwrap_or, get_or}
use Rattle.std.specs.List.{list_any}
use Rattle.yw_mark.specs.Tokens.{is_marked}
use Rattle.yw_path.specs.Bits.{Has}
use Rattle.yw_path.specs.declared.upstream.Upstream.{Upstream}
use Rattle.yw_spec.specs.Net.{Path, at_place, at_task}
use Rattle.yw_spec.specs.declared.spec.Net.{Net}
use Rattle.yw_spec.specs.declared.task.Task.{Task}

-- the tasks upstream of a place; none where there is no such place
abbrev pub row_of : Upstream → ℕ → List ℕ
row_of up c = unwrap_or (option_and_then (slice_get up.rows.items) (slice_get up.row_numbers.items c)) []

-- a task is active, or has a marked input place
abbrev pub is_source : Upstream → List ℕ → List Bool → ℕ → Bool
is_source up marks active u = unwrap_or (slice_get active u) false || list_any (is_marked marks) (get_or up.inputs.items u [])

-- Of each place exactly those tasks are upstream that have a path to it, and the input places of each task are kept.
pub record IsUpstreamOf (net : Net) (up : Upstream) : Type 0 where
  pub only : (u c : ℕ) → Has (row_of up c) u → Path net (at_task u) (at_place c)
  pub all : (u c : ℕ) → Path net (at_task u) (at_place c) → Has (row_of up c) u
  pub within : (u c : ℕ) → Has (row_of up c) u → u < length net.tasks
  pub inputs : up.inputs.items ≡ map (λ (t : Task). t.before) net.tasks
