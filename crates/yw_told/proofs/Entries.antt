-- Two entries that may answer one command are the same where the texts of their steps are.
use Rattle.std.specs.Prelude.{◌≡◌, ◌+◌, ℕ, true, List, [], ◌∷◌, length, map, Option, Some, None, Result, Ok, refl}
use Rattle.std.proofs.Common.{sym, ◌∙◌, ap, subst}
use Rattle.yw_invariant.proofs.EventsWell.{event_keeps_well}
use Rattle.yw_sound.specs.Sound.{ReadsSound}
use Rattle.yw_lines.specs.EventTexts.{step_text}
use Rattle.yw_spec.specs.declared.spec.Spec.{Spec}
use Rattle.yw_state.proofs.LeadsOne.{leads_one}
use Rattle.yw_state.proofs.Tests.{map_some, some_same}
use Rattle.yw_state.specs.Allowed.{allows}
use Rattle.yw_state.specs.Automatic.{ComeAll, Comes, after_each, case_of}
use Rattle.yw_state.specs.Broken.{entry_count}
use Rattle.yw_state.specs.Events.{Leads, after}
use Rattle.yw_state.specs.Identity.{Ident}
use Rattle.yw_state.specs.Judged.{rules_at}
use Rattle.yw_state.specs.Legal.{Follow, IsAsked}
use Rattle.yw_state.specs.State.{State, TaskAt, task_at}
use Rattle.yw_state.specs.Texts.{EventText, IsOne, Reader, TextSays, nothing}
use Rattle.yw_state.specs.Well.{IsWell}
use Rattle.yw_state.specs.declared.command.Command.{Command}
use Rattle.yw_state.specs.declared.command.Command.TheVariants as commands
use Rattle.yw_state.specs.declared.event.Event.{Event}
use Rattle.yw_state.specs.declared.event.Event.TheVariants as events
use Rattle.yw_state.specs.declared.tree.TreePlace.{TreePlace}
use Rattle.yw_told.proofs.Lines.{line_tells}
use Rattle.yw_told.proofs.Reading.{event_in}
use Rattle.yw_told.proofs.Steps.{enter_told, step_tells}
use Rattle.yw_told.specs.Told.{LinesTellEntries}
use Rattle.yw_turns.proofs.Entries.{no_text_of}
use Rattle.yw_within.proofs.Finding.{well_holds_within}
use Rattle.yw_within.specs.Within.{ReadsWithin}

same_ok : {A E : Type 0} (x y : A) → ◌≡◌ {A = Result A E} (Ok x) (Ok y) → x ≡ y
same_ok x y e = cc

comes_leads : (reader : Reader) (s : State) (n : ℕ) (e : Event) → Comes s n e → Leads reader s e (after s e nothing)
comes_leads reader s n e come =
    let says = subst (λ (x : EventText). TextSays reader s x nothing) (sym (no_text_of s e come.automatic)) refl in
    record { said = nothing; says = says; allowed = come.allowed; then = refl }

-- ---- lists of steps

abbrev SameTexts : List Event → List Event → Type 0
SameTexts es fs = map step_text es ≡ map step_text fs

first_text : (e f : Event) (es fs : List Event) → SameTexts (e ∷ es) (f ∷ fs) → step_text e ≡ step_text f
first_text e f es fs same = cc

other_texts : (e f : Event) (es fs : List Event) → SameTexts (e ∷ es) (f ∷ fs) → SameTexts es fs
other_texts e f es fs same = cc

module _ (reader : Reader) (sound : ReadsSound reader) (within : ReadsWithin reader) where
  -- what comes of itself, one event after another
  all_told : (n : ℕ) (es fs : List Event) (s : State) → IsWell reader s → ComeAll s n es → ComeAll s n fs → SameTexts es fs → es ≡ fs
  all_told n [] [] s well come other same = refl
  all_told n [] (f ∷ fs) s well come other same = absurd cc
  all_told n (e ∷ es) [] s well come other same = absurd cc
  all_told n (e ∷ es) (f ∷ fs) s well come other same =
      let holds = well_holds_within reader s within well in
      let first : e ≡ f = step_tells s well.numbers holds n e f come.0 other.0 (first_text e f es fs same) in
      let rest = subst (λ (d : Event). ComeAll (after s d nothing) n fs) (sym first) other.1 in
      let keeps = event_keeps_well reader sound s well e (after s e nothing) (comes_leads reader s n e come.0) in
      let others : es ≡ fs = all_told n es fs (after s e nothing) keeps come.1 rest (other_texts e f es fs same) in
      ap (λ (d : Event). d ∷ es) first ∙ ap (λ (ds : List Event). f ∷ ds) others

  follow_told : (o : Option ℕ) (es fs : List Event) (s : State) → IsWell reader s → Follow s o es → Follow s o fs → SameTexts es fs → es ≡ fs
  follow_told None es fs s well follow other same = follow ∙ sym other
  follow_told (Some n) es fs s well follow other same = all_told n es fs s well follow other same

  -- ---- the event that is asked

  module _ (one : IsOne reader) (s : State) (well : IsWell reader s) where
    -- an Enter that is asked is read from its text
    asked_enter : (who : List ℕ) (i : Ident) (t : List ℕ) (e : Event) (m : State)
        → IsAsked reader s (commands.Enter who i t) e → Leads reader s e m → event_in s 0 (step_text e) ≡ e
    unfolding IsAsked
    asked_enter who i t e m asked leads =
        let holds = well_holds_within reader s within well in
        let IsRead : Event → Type 0 = λ d. allows s d leads.said ≡ true → event_in s 0 (step_text d) ≡ d in
        let (x, there, made) = map_some (λ (y : TaskAt). events.Enter i t asked.0 s.next (entry_count y)) (task_at s i t) e (sym asked.1) in
        subst IsRead made (enter_told s well.numbers holds 0 i t asked.0 leads.said s.next (entry_count x)) leads.allowed.0

    first_told : (c : Command) (e f : Event) (m k : State) → IsAsked reader s c e → IsAsked reader s c f
        → Leads reader s e m → Leads reader s f k → step_text e ≡ step_text f → e ≡ f
    unfolding IsAsked
    first_told (commands.Person name roles) e f m k asked other leads goes same = asked ∙ sym other
    first_told (commands.Load toml) e f m k asked other leads goes same =
        let specs : asked.0 ≡ other.0 = same_ok asked.0 other.0 (one.spec toml (Ok asked.0) (Ok other.0) asked.1 other.1) in
        asked.2 ∙ ap (λ (spec : Spec). events.Load spec.name toml) specs ∙ sym other.2
    first_told (commands.Rule spec net task kind at side when conclusion) e f m k asked other leads goes same =
        asked.2 ∙ ap (λ (p : TreePlace). events.AddRule p at side when conclusion (length (rules_at s p) + 1)) (asked.1 ∙ sym other.1) ∙ sym other.2
    first_told (commands.Launch spec gs) e f m k asked other leads goes same = some_same e f (asked ∙ sym other)
    first_told (commands.Enter who i t) e f m k asked other leads goes same =
        sym (asked_enter who i t e m asked leads) ∙ ap (event_in s 0) same ∙ asked_enter who i t f k other goes
    first_told (commands.Start who j) e f m k asked other leads goes same = asked ∙ sym other
    first_told (commands.Complete who j gs) e f m k asked other leads goes same = some_same e f (asked ∙ sym other)
    first_told (commands.Add who i t value) e f m k asked other leads goes same = some_same e f (asked ∙ sym other)
    first_told (commands.Raise j kind) e f m k asked other leads goes same = some_same e f (asked ∙ sym other)
    first_told (commands.Suspend j) e f m k asked other leads goes same = asked ∙ sym other
    first_told (commands.Continue j) e f m k asked other leads goes same = asked ∙ sym other
    first_told (commands.Cancel j) e f m k asked other leads goes same = asked ∙ sym other
    first_told (commands.Advance j) e f m k asked other leads goes same = asked ∙ sym other

    -- ---- entries

    pub entries_told : LinesTellEntries reader s
    entries_told c n es fs q p t u a b lines =
        let (texts, flag) = line_tells n es fs q p lines in
        let listed = sym (ap (map step_text) a.in_order) ∙ texts ∙ ap (map step_text) b.in_order in
        let text = first_text a.first b.first a.others b.others listed in
        let first = first_told c a.first b.first a.mid b.mid a.asked b.asked a.leads b.leads text in
        let mids = leads_one reader one s a.first a.mid b.mid a.leads (subst (λ (e : Event). Leads reader s e b.mid) (sym first) b.leads) in
        let from_mid = subst (λ (m : State). Follow m (case_of b.first) b.others) (sym mids) b.follow in
        let follow = subst (λ (e : Event). Follow a.mid (case_of e) b.others) (sym first) from_mid in
        let keeps = event_keeps_well reader sound s well a.first a.mid a.leads in
        let texts_after = other_texts a.first b.first a.others b.others listed in
        let others = follow_told (case_of a.first) a.others b.others a.mid keeps a.follow follow texts_after in
        record {
          events = a.in_order ∙ ap (λ (e : Event). e ∷ a.others) first ∙ ap (λ (ds : List Event). b.first ∷ ds) others ∙ sym b.in_order;
          quiet = flag;
          state = a.then ∙ ap (λ (m : State). after_each m a.others) mids ∙ ap (after_each b.mid) others ∙ sym b.then;
        }
