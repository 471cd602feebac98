-- The state that what is kept stands for.
use Rattle.yw_library.specs.Parts as parts
use Rattle.yw_standing.specs.declared.standing.Standing.{Standing}
use Rattle.yw_state.specs.State.{State}

abbrev pub state_of : Standing → State
state_of h = parts.state_of (record { library = h.known; forest = h.forest; next = h.next; ended = h.ended })
