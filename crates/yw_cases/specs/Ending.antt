-- When a case may finish.
use Rattle.std.specs.Prelude.{Bool, not, ℕ, ◌&&◌}
use Rattle.yw_state.specs.Identity.{Ident, case_ident}
use Rattle.yw_state.specs.Joins.{at_output}
use Rattle.yw_state.specs.State.{State}
use Rattle.yw_state.specs.Words.{held}

-- nothing holds work at i, and the net there is at its end
abbrev pub ends_at : State → Ident → Bool
ends_at s i = not (held s i) && at_output s i

-- so it is with the case of this number
abbrev pub case_ends : State → ℕ → Bool
case_ends s n = ends_at s (case_ident n)
