-- Of an event that is neither an entry nor an exit nothing is computed.
use Rattle.std.proofs.Common.{false, refl, sym, ◌≡◌}
use Rattle.yw_state.proofs.Tests.{never}
use Rattle.yw_state.specs.State.{State}
use Rattle.yw_state.specs.declared.event.Event.{Event}
use Rattle.yw_state.specs.declared.event.Event.TheVariants as events
use Rattle.yw_walk.specs.Computed.{IsComputedOf, is_computed}
use Rattle.yw_walk.specs.declared.found.Computed.TheVariants as computed

pub nothing_of : (s : State) (e : Event) → is_computed e ≡ false → IsComputedOf s e computed.Nothing
nothing_of s (events.Enter i name places first count) plain = never (sym plain)
nothing_of s (events.Exit i name places) plain = never (sym plain)
nothing_of s e plain = refl
