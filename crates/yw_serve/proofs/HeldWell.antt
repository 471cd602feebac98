-- The state that the files hold is well: allowed events lead to it from the opening.
use Rattle.std.proofs.Common.{List, [], ◌∷◌, ◌++◌, ℕ, subst}
use Rattle.yw_answered.proofs.Reached.{reached_is_well}
use Rattle.yw_journal.specs.Files.{Content, LeadsTo}
use Rattle.yw_texts.specs.Texts.{reader}
use Rattle.yw_outside.specs.declared.image.Image.{Image}
use Rattle.yw_serve.specs.Damage.{HoldNow, meaning}
use Rattle.yw_serve.proofs.OpenLaws.{from_opening, no_snapshot}
use Rattle.yw_state.specs.Events.{LeadAll}
use Rattle.yw_state.specs.State.{State, opening}
use Rattle.yw_state.specs.Well.{IsWell}
use Rattle.yw_state.specs.declared.event.Event.{Event}

lead_both : (es fs : List Event) (s mid t : State) → LeadAll reader s es mid → LeadAll reader mid fs t → LeadAll reader s (es ++ fs) t
lead_both [] fs s mid t same rest = subst (λ (u : State). LeadAll reader u fs t) same rest
lead_both (e ∷ es) fs s mid t first rest = (first.0, first.1, lead_both es fs first.0 mid t first.2 rest)

-- what records mean, as events in one list
events_of : (s : State) (records : List (List ℕ)) (t : State) → LeadsTo meaning s records t → (es : List Event) × LeadAll reader s es t
events_of s [] t same = ([], same)
events_of s (bytes ∷ records) t (mid, leads, rest) =
    let more = events_of mid records t rest in (leads.events ++ more.0, lead_both leads.events more.0 s mid t leads.lead more.1)

pub held_well : (c : Content) (s : State) (i : Image) → HoldNow c s i → IsWell reader s
held_well c s i held =
    let none = no_snapshot c.snapshot c.records s held.hold.state in
    let all = events_of opening c.records s (from_opening c.snapshot c.records s none held.hold.state) in
    reached_is_well all.0 s all.1
