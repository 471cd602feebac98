-- What is so of the state that what is kept stands for.
use Rattle.yw_library.specs.Held.{IsHeld}
use Rattle.yw_library.specs.declared.parts.Parts.{Parts}
use Rattle.yw_plain.specs.Plain.{IsPlain}
use Rattle.yw_plain.specs.Worklets.{HasNoWorklet}
use Rattle.yw_standing.specs.State.{state_of}
use Rattle.yw_standing.specs.declared.standing.Standing.{Standing}

-- what these parts hold
abbrev pub standing_of : Parts → Standing
standing_of p = record { known = p.library; forest = p.forest; ended = p.ended; next = p.next }

-- The state is well, and its cases stand in the forest. Without rule trees, exlets and worklets it is plain and has no worklet; that goes when
-- these are built.
pub record MayStand (h : Standing) : Type 0 where
  pub held : IsHeld h.known h.forest (state_of h)
  pub plain : IsPlain (state_of h)
  pub no_worklet : HasNoWorklet (state_of h)
