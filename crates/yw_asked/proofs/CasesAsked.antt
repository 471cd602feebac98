-- To launch a case, to cancel it and go on with it, to suspend and continue, and to set a person's roles or load a specification.
use Rattle.std.specs.Prelude.{◌≡◌, ◌&&◌, ℕ, true, false, not, List, Some, Ok, length, option_and_then, option_map, refl}
use Rattle.std.proofs.Common.{sym, ◌∙◌, ap}
use Rattle.std.proofs.lemmas.Bool.{and_from, and_parts, ltb-true, not-false, or_left, or_right}
use Rattle.std.proofs.lemmas.Slice.Eq.{bytes_eq-Decides}
use Rattle.yw_spec.specs.declared.spec.Net.{Net}
use Rattle.yw_spec.specs.declared.spec.Spec.{Spec}
use Rattle.yw_state.proofs.Tests.{by_test, there}
use Rattle.yw_state.specs.Allowed.{allows, are_roles, launch_fits}
use Rattle.yw_state.specs.Broken.{checks}
use Rattle.yw_state.specs.Events.{after}
use Rattle.yw_state.specs.Given.{launch_values}
use Rattle.yw_state.specs.Identity.{Ident, case_ident, is_case_ident}
use Rattle.yw_base.specs.Identity.{case_number}
use Rattle.yw_state.specs.Legal.{IsAsked}
use Rattle.yw_state.specs.Map.{get, has_key}
use Rattle.yw_state.specs.Nets.{top_net}
use Rattle.yw_state.specs.State.{State, is_case, is_item, is_target, spec_called, top_called}
use Rattle.yw_state.specs.Texts.{Reader, a_spec}
use Rattle.yw_state.specs.declared.command.Command.TheVariants as commands
use Rattle.yw_state.specs.declared.command.Given.{Given}
use Rattle.yw_state.specs.declared.event.Event.TheVariants as events
use Rattle.yw_state.specs.declared.loaded.Loaded.{Loaded}
use Rattle.yw_still.proofs.ItemsGoOn.{case_alone}
use Rattle.yw_within.proofs.Finding.{element_at}
use Rattle.yw_within.specs.Within.{HoldsWithin}
use Rattle.yw_asked.proofs.Fitting.{launched_fit}
use Rattle.yw_asked.proofs.Unbroken.{event_without_text, none_broken, one_left, passes}
use Rattle.yw_asked.specs.Asked.{HasEvent, HasEventUnbroken}

module _ (reader : Reader) (s : State) where
  -- ---- cases

  pub launch_has_event : HoldsWithin s → (name : List ℕ) (gs : List Given) → HasEventUnbroken reader s (commands.Launch name gs)
  unfolding checks IsAsked allows
  launch_has_event holds name gs unbroken =
      let (loaded, f) = none_broken (checks reader s (commands.Launch name gs)) unbroken in
      let (wanted, f) = f in
      let (numbers, f) = f in
      let (l, is) = there (get s.specs name) (not-false _ loaded) in
      let called : spec_called s name ≡ Some l.spec = ap (option_map (λ (x : Loaded). x.spec)) is in
      let within = holds name l.spec called in
      let (net, top) = element_at l.spec.nets l.spec.top (ltb-true l.spec.top (length l.spec.nets) within.top) in
      let top_is : top_called s name ≡ Some net = ap (option_and_then top_net) called ∙ top in
      event_without_text reader s (commands.Launch name gs) (events.Launch s.next name (launch_values net.vars gs)) refl
      (sym (ap (option_map (λ (n : Net). events.Launch s.next name (launch_values n.vars gs))) top_is))
      (and_from _ _ (one_left s numbers) (passes top_is (λ n. launch_fits n.vars (launch_values net.vars gs)) (launched_fit net.vars gs (within.nets l.spec.top net top).begins)), tt)

  -- the case stands at its number
  stands_alone : (j : Ident) → is_case s j ≡ true → is_case s (case_ident (case_number j)) ≡ true
  stands_alone j e = ap (is_case s) (case_alone j (and_parts (is_case_ident j) _ e).0) ∙ e

  module _ (j : Ident) where
    pub cancel_has_event : HasEventUnbroken reader s (commands.Cancel j)
    unfolding checks IsAsked allows
    cancel_has_event unbroken =
        let (stands, f) = none_broken (checks reader s (commands.Cancel j)) unbroken in
        event_without_text reader s (commands.Cancel j) (events.Cancel (case_number j)) refl refl (stands_alone j (not-false (is_case s j) stands), tt)

    pub advance_has_event : HasEventUnbroken reader s (commands.Advance j)
    unfolding checks IsAsked allows
    advance_has_event unbroken =
        let (stands, f) = none_broken (checks reader s (commands.Advance j)) unbroken in
        event_without_text reader s (commands.Advance j) (events.Advance (case_number j)) refl refl (stands_alone j (not-false (is_case s j) stands), tt)

    -- ---- marks

    -- a case at one number, or an item at several
    pub is_a_target : (is_case_ident j && not (is_case s j)) ≡ false → (not (is_case_ident j) && not (is_item s j)) ≡ false → is_target s j ≡ true
    is_a_target no_case no_item =
        by_test (is_case_ident j)
        (λ one. or_left _ _ (not-false _ (ap (λ b. b && not (is_case s j)) (sym one) ∙ no_case)))
        (λ several. or_right _ _ (not-false _ (ap (λ b. not b && not (is_item s j)) (sym several) ∙ no_item)))

    pub suspend_has_event : HasEventUnbroken reader s (commands.Suspend j)
    unfolding checks IsAsked allows
    suspend_has_event unbroken =
        let (no_case, f) = none_broken (checks reader s (commands.Suspend j)) unbroken in
        let (no_item, f) = f in
        let (mark, f) = f in
        event_without_text reader s (commands.Suspend j) (events.Suspend j) refl refl (and_from _ _ (is_a_target no_case no_item) (ap not mark), tt)

    pub continue_has_event : HasEventUnbroken reader s (commands.Continue j)
    unfolding checks IsAsked allows
    continue_has_event unbroken =
        let (no_case, f) = none_broken (checks reader s (commands.Continue j)) unbroken in
        let (no_item, f) = f in
        let (mark, f) = f in
        event_without_text reader s (commands.Continue j) (events.Continue j) refl refl (not-false _ mark, tt)

  -- ---- persons and specifications

  pub person_has_event : (name : List ℕ) (roles : List (List ℕ)) → are_roles roles ≡ true → HasEvent reader s (commands.Person name roles)
  unfolding IsAsked allows
  person_has_event name roles right = event_without_text reader s (commands.Person name roles) (events.Person name roles) refl refl (right, tt)

  pub load_has_event : (text : List ℕ) (spec : Spec) → reader.spec text (Ok spec) → HasEventUnbroken reader s (commands.Load text)
  unfolding checks IsAsked allows
  load_has_event text spec says unbroken =
      let (fault, f) = none_broken (checks reader s (commands.Load text)) unbroken in
      let (known, f) = f in
      let new : has_key s.specs spec.name ≡ false = by_test (has_key s.specs spec.name) (λ e. absurd (known (spec, says, e))) (λ e. e) in
      let e = events.Load spec.name text in (
        e,
        after s e (a_spec spec),
        (spec, says, refl),
        record {
          said = a_spec spec;
          says = (spec, says, refl);
          allowed = (and_from _ _ ((bytes_eq-Decides spec.name spec.name).1 refl) (ap not new), tt);
          then = refl;
        },
      )
