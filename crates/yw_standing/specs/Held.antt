-- What is so of all that is kept, whatever trees, exlets and worklets are in it.
use Rattle.yw_library.specs.Held.{IsHeld}
use Rattle.yw_standing.specs.State.{state_of}
use Rattle.yw_standing.specs.declared.standing.Standing.{Standing}

-- the state is well, and its cases stand in the forest
abbrev pub StandsHeld : Standing → Type 0
StandsHeld h = IsHeld h.known h.forest (state_of h)
