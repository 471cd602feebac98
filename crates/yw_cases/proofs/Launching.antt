-- A case begins.
use Rattle.std.proofs.Common.{ap, subst, sym, ◌∙◌}
use Rattle.std.proofs.lemmas.Bool.{leb-true}
use Rattle.std.specs.Prelude.{◌≤◌, Bool, List, None, Some, false, nat_le, refl, true, ℕ, ◌&&◌, ◌+◌, ◌==◌, ◌≡◌}
use Rattle.std.specs.Prelude.{option_and_then, option_map, slice_get}
use Rattle.yw_base.specs.Identity.{number_end}
use Rattle.yw_cases.proofs.Trying.{done, stands_well, words_of}
use Rattle.yw_cases.specs.Rows.{may_begin}
use Rattle.yw_cases.specs.State.{MayStand}
use Rattle.yw_cases.specs.Tried.{IsSpecNumbered}
use Rattle.yw_known.proofs.Standing.{kept_called, kept_named, kept_within, specs_are}
use Rattle.yw_library.specs.Names.{names_of}
use Rattle.yw_library.specs.Holdings as library
use Rattle.yw_library.specs.Holdings.{IsKept}
use Rattle.yw_nest.proofs.FromState.{case_begins}
use Rattle.yw_nest.specs.Cases.{BeginsAs, CaseMayBegin, Launches}
use Rattle.yw_spec.specs.declared.spec.Net.{Net}
use Rattle.yw_spec.specs.declared.spec.Spec.{Spec}
use Rattle.yw_standing.proofs.Trying.{fails, leads_plainly, next_is, placed_next}
use Rattle.yw_standing.specs.State.{state_of}
use Rattle.yw_standing.specs.Tried.{IsDone, LeadsNowhere, LeadsOn, TellsLeads}
use Rattle.yw_standing.specs.declared.standing.Standing.{Standing}
use Rattle.yw_state.proofs.Tests.{and_left, and_right, nowhere, some_same}
use Rattle.yw_state.specs.After.{with_next}
use Rattle.yw_state.specs.Allowed.{Allowed, allows, launch_fits}
use Rattle.yw_state.specs.Map.{get}
use Rattle.yw_state.specs.Nets.{top_net}
use Rattle.yw_state.specs.Options.{is_some_and}
use Rattle.yw_state.specs.State.{no_checks, spec_called, top_called}
use Rattle.yw_state.specs.Texts.{Said, nothing}
use Rattle.yw_state.specs.Values.{Row}
use Rattle.yw_state.specs.declared.event.Event.TheVariants as events
use Rattle.yw_state.specs.declared.loaded.Loaded.{Loaded}
use Rattle.yw_tree.specs.declared.Forest.{Forest}

module _ (old : Standing) (may : MayStand old) (n : ℕ) (name : List ℕ) (vals : Row) where
  by_top : (said : Said) (spec : Spec) → spec_called (state_of old) name ≡ Some spec
      → allows (state_of old) (events.Launch n name vals) said ≡ may_begin spec old.next n vals
  unfolding allows
  by_top said spec called =
      ap (λ k. (n == k && nat_le (n + 1) number_end) && is_some_and (top_called (state_of old) name) (λ (net : Net). launch_fits net.vars vals)) (next_is old)
      ∙ ap (λ o. (n == old.next && nat_le (n + 1) number_end) && is_some_and (option_and_then top_net o) (λ (net : Net). launch_fits net.vars vals)) called

  and_no : (b : Bool) → (b && false) ≡ false
  and_no true = refl
  and_no false = refl

  by_none : (said : Said) → spec_called (state_of old) name ≡ None → allows (state_of old) (events.Launch n name vals) said ≡ false
  unfolding allows
  by_none said none =
      ap (λ o. (n == (state_of old).next && nat_le (n + 1) number_end) && is_some_and (option_and_then top_net o) (λ (net : Net). launch_fits net.vars vals)) none
      ∙ and_no (n == (state_of old).next && nat_le (n + 1) number_end)

  -- no specification of the name is loaded
  pub no_spec : get (library.state_of old.known).specs name ≡ None → LeadsNowhere old (events.Launch n name vals)
  no_spec none = fails old (events.Launch n name vals) (λ said. by_none said
      (ap (λ z. option_map (λ (l : Loaded). l.spec) (get z name)) (specs_are old.known old.forest (state_of old) may.held) ∙ ap (option_map (λ (l : Loaded). l.spec)) none))

  module _ (spec : Spec) (number : ℕ) (kept : IsKept old.known name spec number) where
    called : spec_called (state_of old) name ≡ Some spec
    called = kept_called old.known old.forest (state_of old) may.held name spec number kept

    named : names_of old.known number ≡ name
    named = kept_named old.known old.forest (state_of old) may.held name spec number kept

    pub launches_so : LeadsOn old (events.Launch n name vals) → may_begin spec old.next n vals ≡ true
    launches_so leads = sym (by_top leads.1.said spec called) ∙ leads.1.allowed.0

    -- the number behind it is an identity's, or the first that isn't
    pub next_fits : LeadsOn old (events.Launch n name vals) → n + 1 ≤ number_end
    next_fits leads =
        leb-true (n + 1) number_end
        (and_right (n == old.next) (nat_le (n + 1) number_end) (and_left _ (is_some_and (top_net spec) (λ (net : Net). launch_fits net.vars vals)) (launches_so leads)))

    not_launched : may_begin spec old.next n vals ≡ false → LeadsNowhere old (events.Launch n name vals)
    not_launched e = fails old (events.Launch n name vals) (λ said. by_top said spec called ∙ e)

    module _ (begins : may_begin spec old.next n vals ≡ true) where
      allowed : Allowed (state_of old) (events.Launch n name vals) nothing
      allowed = (by_top nothing spec called ∙ begins, tt)

      pub case_may_begin : CaseMayBegin old.forest spec n
      case_may_begin = case_begins (names_of old.known) old.forest (state_of old) spec n name vals nothing (stands_well old may) (kept_within old.known name spec number kept) allowed

      pub launched : (f : Forest) (row : Row) → row ≡ vals → Launches spec number n row no_checks old.forest f
          → IsDone old (events.Launch n name vals) (record old { forest = f; next = n + 1 })
      launched f row same does =
          done old may (λ names. events.Launch n (names number) row) (BeginsAs spec number no_checks) (λ s. with_next s (n + 1)) (events.Launch n name vals)
          (record old { forest = f; next = n + 1 }) does
          (record {
            loaded = ap (spec_called (state_of old)) named ∙ called;
            checks = sym ((words_of old may).case_due (names_of old.known number));
          })
          (λ i. events.Launch n (named i) (same i)) (placed_next old f (n + 1)) refl allowed

    pub tells_launch : (b : Bool) → may_begin spec old.next n vals ≡ b → TellsLeads old (events.Launch n name vals) b
    tells_launch true e = leads_plainly old (events.Launch n name vals) refl (allowed e)
    tells_launch false e = not_launched e

-- ---- the specification with a number

module _ (known : library.Holdings) (name : List ℕ) (k : ℕ) (is : IsSpecNumbered known name k) where
  -- is there
  pub numbered_there : {A : Type 0} → slice_get known.specs k ≡ None → A
  numbered_there none = nowhere (sym none ∙ is.kept.stands)

  -- and is the one of the name
  pub numbered_kept : (l : Loaded) → slice_get known.specs k ≡ Some l → IsKept known name l.spec k
  numbered_kept l at =
      let its : Loaded = record { text = is.kept.text; spec = is.spec } in
      subst (λ (z : Loaded). IsKept known name z.spec k) (some_same its l (sym is.kept.stands ∙ at)) is.kept
