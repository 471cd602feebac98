-- What an engine holds, and the state that it stands for. Our own.
use Rattle.std.specs.Prelude.{Bool}
use Rattle.yw_standing.specs.State as kept
use Rattle.yw_standing.specs.declared.standing.Standing.{Standing}
use Rattle.yw_state.specs.State.{State}

-- Persons, specifications, the cases that stand, how cases ended, and the number that is drawn next; and whether memory ran out.
pub record Held : Type 0 where
  pub standing : Standing
  pub spent : Bool

abbrev pub state_of : Held → State
state_of h = kept.state_of h.standing
