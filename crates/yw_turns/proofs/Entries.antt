-- Entries: they lead to their states, and a command whose event is allowed has one.
use Rattle.std.specs.Prelude.{◌≡◌, ◌↔◌, ℕ, List, [], ◌∷◌, Bool, true, Option, Some, None, refl, IsTrue}
use Rattle.std.proofs.Common.{sym, subst}
use Rattle.yw_texts.proofs.Alone.{alone_is_legal}
use Rattle.yw_texts.proofs.Lacking.{follows, here}
use Rattle.yw_texts.specs.Lacking.{CannotLack}
use Rattle.yw_state.proofs.Tests.{by_option, never}
use Rattle.yw_state.specs.Automatic.{ComeAll, after_each, case_of, is_automatic}
use Rattle.yw_state.specs.Broken.{Breaks}
use Rattle.yw_state.specs.Events.{LeadAll, Leads, after}
use Rattle.yw_state.specs.Legal.{Follow, IsAsked, IsLegal, QuietIfCase}
use Rattle.yw_state.specs.State.{State}
use Rattle.yw_state.specs.Texts.{EventText, Reader, TextSays, no_text, nothing, text_of}
use Rattle.yw_state.specs.declared.command.Command.{Command}
use Rattle.yw_state.specs.declared.event.Event.{Event}
use Rattle.yw_state.specs.declared.event.Event.TheVariants as events
use Rattle.yw_turns.proofs.RunningOut.{turns_end}
use Rattle.yw_turns.specs.Turns.{HasEntry, RunsOut}

-- ---- entries lead to their states

-- what comes of itself has no text
pub no_text_of : (s : State) (e : Event) → IsTrue (is_automatic s e) → text_of e ≡ no_text
no_text_of s (events.Load name text) auto = never auto
no_text_of s (events.AddRule p at side when conclusion number) auto = never auto
no_text_of s e auto = refl

module _ (reader : Reader) where
  come_lead : (s : State) (n : ℕ) (es : List Event) → ComeAll s n es → LeadAll reader s es (after_each s es)
  come_lead s n [] come = refl
  come_lead s n (e ∷ es) come =
      let says = subst (λ (x : EventText). TextSays reader s x nothing) (sym (no_text_of s e come.0.automatic)) refl in
      (after s e nothing, record { said = nothing; says = says; allowed = come.0.allowed; then = refl }, come_lead (after s e nothing) n es come.1)

  follow_lead : (s : State) (o : Option ℕ) (es : List Event) → Follow s o es → LeadAll reader s es (after_each s es)
  follow_lead s None es none = subst (λ (ds : List Event). LeadAll reader s ds (after_each s ds)) (sym none) refl
  follow_lead s (Some n) es come = come_lead s n es come

  pub legal_leads : (s : State) (c : Command) (entry : List Event) (quiet : Bool) (t : State) → IsLegal reader s c entry quiet t → LeadAll reader s entry t
  legal_leads s c entry quiet t a =
      let others = subst (λ (u : State). LeadAll reader a.mid a.others u) (sym a.then) (follow_lead a.mid (case_of a.first) a.others a.follow) in
      subst (λ (es : List Event). LeadAll reader s es t) (sym a.in_order) (a.mid, a.leads, others)

  -- ---- a command whose event is allowed

  module _ (s mid : State) (c : Command) (e : Event) (unbroken : Breaks reader s c None) (asked : IsAsked reader s c e) (leads : Leads reader s e mid) where
    pub legal_alone : case_of e ≡ None → IsLegal reader s c (e ∷ []) true mid
    legal_alone none = alone_is_legal reader s c e mid unbroken asked none leads

    pub legal_turns : (n : ℕ) (es : List Event) (quiet : Bool) (t : State) → case_of e ≡ Some n → RunsOut mid n es quiet t → IsLegal reader s c (e ∷ es) quiet t
    legal_turns n es quiet t of ran = record {
      unbroken = unbroken;
      first = e;
      others = es;
      in_order = refl;
      asked = asked;
      mid = mid;
      leads = leads;
      follow = subst (λ (o : Option ℕ). Follow mid o es) (sym of) ran.come;
      then = ran.then;
      within = ran.within;
      is_quiet = subst (λ (o : Option ℕ). IsTrue quiet ↔ QuietIfCase t o) (sym of) ran.is_quiet;
      spent = ran.spent;
    }

    pub has_entry : CannotLack (HasEntry reader s c)
    has_entry =
        by_option (case_of e)
        (λ none. here (e ∷ [], true, mid, legal_alone none))
        (λ n of. follows (turns_end mid n) (λ h. here (e ∷ h.0, h.1, h.2, legal_turns n h.0 h.1 h.2 of h.3)))
