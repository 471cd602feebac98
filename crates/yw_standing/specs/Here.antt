-- What is found of a net that stands, by what is known alone.
use Rattle.std.specs.Borrow.{Bor}
use Rattle.yw_known.specs.Here.{IsNetHere}
use Rattle.yw_known.specs.declared.here.NetHere.{NetHere}
use Rattle.yw_known.specs.declared.known.KnownNet.{KnownNet}
use Rattle.yw_library.specs.Holdings.{Holdings}
use Rattle.yw_state.specs.Identity.{Ident}
use Rattle.yw_state.specs.State.{State}
use Rattle.yw_tree.specs.declared.Forest.{Forest}
use Rattle.yw_tree.specs.declared.NetState.{NetState}

abbrev pub with_state : KnownNet → Bor NetState → NetHere
with_state w state = record { state = state; net = w.net; up = w.up; spec = w.spec }

-- A net stands at i. It is this one of this specification, with its own upstream.
pub record IsNetKnown (known : Holdings) (f : Forest) (s : State) (i : Ident) (w : KnownNet) : Type 0 where
  pub state : Bor NetState
  pub here : IsNetHere known f s i (with_state w state)
