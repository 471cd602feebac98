-- Each state that is reached is well, and what is loaded in it is within.
use Rattle.std.specs.Prelude.{List}
use Rattle.yw_accepted.proofs.Loaded.{accepted_are_sound, accepted_are_within}
use Rattle.yw_invariant.proofs.FromOpening as opened
use Rattle.yw_texts.specs.Texts.{reader}
use Rattle.yw_state.specs.Events.{LeadAll}
use Rattle.yw_state.specs.State.{State, opening}
use Rattle.yw_state.specs.Well.{IsWell}
use Rattle.yw_state.specs.declared.event.Event.{Event}
use Rattle.yw_within.proofs.Finding.{well_holds_within}
use Rattle.yw_within.specs.Within.{HoldsWithin}

pub reached_is_well : (es : List Event) (t : State) → LeadAll reader opening es t → IsWell reader t
reached_is_well = opened.reached_is_well reader accepted_are_sound

pub reached_holds_within : (es : List Event) (t : State) → LeadAll reader opening es t → HoldsWithin t
reached_holds_within es t leads = well_holds_within reader t accepted_are_within (reached_is_well es t leads)
