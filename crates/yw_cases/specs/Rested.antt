-- What is kept of where something may come of itself, beside the state. Our own.
use Rattle.yw_cases.specs.State.{MayStand}
use Rattle.yw_loose.specs.Loose.{IsRested}
use Rattle.yw_loose.specs.declared.loose.Loose.{Loose}
use Rattle.yw_standing.specs.State.{state_of}
use Rattle.yw_standing.specs.declared.standing.Standing.{Standing}

-- The state may stand, and in each case that is known, what isn't loose rests.
pub record StandsRested (h : Standing) (l : Loose) : Type 0 where
  pub stands : MayStand h
  pub rested : IsRested (state_of h) l
