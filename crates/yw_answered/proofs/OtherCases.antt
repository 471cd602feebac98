-- An entry leaves other cases alone, and one without a case all of them.
use Rattle.std.specs.Prelude.{◌≡◌, ℕ, List, [], ◌∷◌, Bool, Option, Some, None, refl}
use Rattle.std.proofs.Common.{◌∙◌, ap, sym, subst}
use Rattle.yw_invariant.proofs.EventsWell.{event_keeps_well}
use Rattle.yw_sound.specs.Sound.{ReadsSound}
use Rattle.yw_state.proofs.Apart.{leaves_cases, leaves_other_cases}
use Rattle.yw_state.proofs.Elsewhere.{step, unchanged}
use Rattle.yw_state.specs.Apart.{SameCases, SameElsewhere}
use Rattle.yw_state.specs.Automatic.{ComeAll, Comes, after_each, case_of}
use Rattle.yw_state.specs.Events.{Leads, after}
use Rattle.yw_state.specs.Legal.{Follow, IsLegal}
use Rattle.yw_state.specs.State.{State}
use Rattle.yw_state.specs.Texts.{EventText, Reader, TextSays, nothing}
use Rattle.yw_state.specs.Well.{IsWell}
use Rattle.yw_state.specs.declared.command.Command.{Command}
use Rattle.yw_state.specs.declared.event.Event.{Event}
use Rattle.yw_turns.proofs.Entries.{no_text_of}

module _ (reader : Reader) (sound : ReadsSound reader) (n : ℕ) where
  comes_leads : (s : State) (e : Event) → Comes s n e → Leads reader s e (after s e nothing)
  comes_leads s e comes =
      record {
        said = nothing;
        says = subst (λ (x : EventText). TextSays reader s x nothing) (sym (no_text_of s e comes.automatic)) refl;
        allowed = comes.allowed;
        then = refl;
      }

  -- what comes of itself in the case
  come_elsewhere : (s : State) (es : List Event) → IsWell reader s → ComeAll s n es → SameElsewhere n s (after_each s es)
  come_elsewhere s [] well come = unchanged n s
  come_elsewhere s (e ∷ es) well come =
      let t = after s e nothing in
      step n (leaves_other_cases n s e nothing well.numbers well.parents come.0.allowed come.0.here)
      (come_elsewhere t es (event_keeps_well reader sound s well e t (comes_leads s e come.0)) come.1)

  pub entry_elsewhere : (s t : State) (c : Command) (entry : List Event) (quiet : Bool) → IsWell reader s → (legal : IsLegal reader s c entry quiet t) → case_of legal.first ≡ Some n → SameElsewhere n s t
  entry_elsewhere s t c entry quiet well legal of =
      let leads = legal.leads in
      let mid_well = event_keeps_well reader sound s well legal.first legal.mid leads in
      let come = subst (λ (o : Option ℕ). Follow legal.mid o legal.others) of legal.follow in
      let first = subst (SameElsewhere n s) (sym leads.then) (leaves_other_cases n s legal.first leads.said well.numbers well.parents leads.allowed of) in
      subst (SameElsewhere n s) (sym legal.then) (step n first (come_elsewhere legal.mid legal.others mid_well come))

-- nothing comes behind an event without a case
pub entry_leaves_cases : (reader : Reader) (s t : State) (c : Command) (entry : List Event) (quiet : Bool) → (legal : IsLegal reader s c entry quiet t) → case_of legal.first ≡ None → SameCases s t
entry_leaves_cases reader s t c entry quiet legal of =
    let leads = legal.leads in
    let none = subst (λ (o : Option ℕ). Follow legal.mid o legal.others) of legal.follow in
    let same = legal.then ∙ ap (after_each legal.mid) none ∙ leads.then in
    subst (SameCases s) (sym same) (leaves_cases s legal.first leads.said of)
