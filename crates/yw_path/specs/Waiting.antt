-- Whether a token may still come to a place. That this is said by paths is our own.
use Rattle.std.specs.Prelude.{◌≡◌, ◌<◌, ℕ, Bool, false, not, IsTrue, List, Contains, length, slice_get, unwrap_or}
use Rattle.yw_mark.specs.Tokens.{is_marked}
use Rattle.yw_spec.specs.Net.{Node, Path, at_place, at_task}
use Rattle.yw_spec.specs.declared.spec.Net.{Net}
use Rattle.yw_spec.specs.declared.task.Task.{Task}
use Rattle.yw_state.specs.Identity.{Ident}
use Rattle.yw_state.specs.State.{State}
use Rattle.yw_state.specs.Words.{active}

-- a marked place, or an active task
abbrev pub holds_token : List ℕ → List Bool → Node → Bool
holds_token marks actives (at_place c) = is_marked marks c
holds_token marks actives (at_task t) = unwrap_or (slice_get actives t) false

-- A path leads to place c from something that holds a token, maybe from c itself.
pub record MayStillCome (net : Net) (marks : List ℕ) (actives : List Bool) (c : ℕ) : Type 0 where
  pub source : Node
  pub holds : IsTrue (holds_token marks actives source)
  pub path : Path net source (at_place c)

-- these of its tasks are active in the net at i
abbrev pub HasActive : State → Ident → Net → List Bool → Type 0
HasActive s i net actives = (t : ℕ) → t < length net.tasks → active s i t ≡ unwrap_or (slice_get actives t) false

-- An input place of the task is empty, and a token may still come to it.
pub record MayFill (net : Net) (task : Task) (marks : List ℕ) (actives : List Bool) : Type 0 where
  pub input : ℕ
  pub of_task : Contains task.before input
  pub empty : IsTrue (not (is_marked marks input))
  pub comes : MayStillCome net marks actives input
