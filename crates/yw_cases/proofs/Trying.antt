-- What an event leads to that is done to the forest, and what is so of the state then.
use Rattle.std.proofs.Common.{ap, subst, sym, ◌∙◌}
use Rattle.std.specs.Prelude.{List, [], refl, true, ℕ, ◌≡◌}
use Rattle.yw_accepted.proofs.Loaded.{accepted_are_sound}
use Rattle.yw_cases.specs.State.{MayStand}
use Rattle.yw_invariant.proofs.EventsWell.{event_keeps_well}
use Rattle.yw_invariant.proofs.FromOpening.{opening_is_well}
use Rattle.yw_library.specs.Names.{names_of}
use Rattle.yw_library.specs.Holdings as library
use Rattle.yw_library.specs.Holdings.{Holdings, with_holdings, with_library}
use Rattle.yw_standing.specs.State.{state_of}
use Rattle.yw_standing.specs.Tried.{IsDone}
use Rattle.yw_standing.specs.declared.standing.Standing.{Standing}
use Rattle.yw_texts.specs.Texts.{reader}
use Rattle.yw_nest.specs.Does.{Does}
use Rattle.yw_nest.specs.Stands.{StandsWell}
use Rattle.yw_plain.proofs.Keeping.{event_keeps}
use Rattle.yw_plain.proofs.Started.{none_stays}
use Rattle.yw_plain.proofs.Words as plain
use Rattle.yw_plain.specs.Plain.{IsPlain, PlainWords, keeps_plain}
use Rattle.yw_plain.specs.Worklets.{HasNoWorklet}
use Rattle.yw_state.proofs.Tests.{nowhere}
use Rattle.yw_state.specs.After.{with_sites}
use Rattle.yw_state.specs.Allowed.{Allowed}
use Rattle.yw_state.specs.Events.{after}
use Rattle.yw_state.specs.Map.{empty}
use Rattle.yw_state.specs.State.{State, opening}
use Rattle.yw_state.specs.Texts.{Says, nothing}
use Rattle.yw_state.specs.Well.{IsWell}
use Rattle.yw_state.specs.declared.event.Event.{Event}
use Rattle.yw_tree.specs.Forest.{IsForest, sites_of}
use Rattle.yw_tree.specs.declared.Forest.{Forest}

-- ---- what is so of the state

module _ (old : Standing) (may : MayStand old) where
  pub words_of : PlainWords (state_of old)
  words_of = plain.words (state_of old) may.plain

  pub stands_well : StandsWell (names_of old.known) old.forest (state_of old)
  stands_well = record { boxed = may.held.boxed; sites = may.held.sites; numbers = may.held.well.numbers; nets = may.held.well.nets }

  -- ---- after an event that is done

  pub done_stands : (e : Event) (new : Standing) → keeps_plain e ≡ true → IsDone old e new → MayStand new
  unfolding with_library
  done_stands e new plain done =
      record {
        held = record {
          library = refl;
          rules = refl;
          boxed = done.boxed;
          sites = refl;
          well = event_keeps_well reader accepted_are_sound (state_of old) may.held.well e (state_of new) done.leads;
        };
        plain = subst IsPlain (sym done.leads.then) (event_keeps (state_of old) e done.leads.said may.plain plain);
        no_worklet = subst HasNoWorklet (sym done.leads.then) (none_stays (state_of old) may.held.well.numbers may.held.well.nets may.held.well.parents e done.leads.said may.no_worklet plain done.leads.allowed);
      }

  -- ---- an event is done

  pub done : (event : (ℕ → List ℕ) → Event) (Needs : (ℕ → List ℕ) → State → Type 0) (rest : State → State) (e : Event) (new : Standing)
      → Does event Needs rest old.forest new.forest → Needs (names_of old.known) (state_of old) → event (names_of old.known) ≡ e
      → with_sites (rest (state_of old)) (sites_of (names_of old.known) new.forest) ≡ state_of new → Says reader (state_of old) e nothing → Allowed (state_of old) e nothing
      → IsDone old e new
  done event Needs rest e new does needs same placed says allowed =
      let names : ℕ → List ℕ = names_of old.known in
      record {
        leads = record {
          said = nothing;
          says = says;
          allowed = allowed;
          then = sym (ap (λ z. after (state_of old) z nothing) (sym same) ∙ does.leads names (state_of old) nothing may.held.sites needs ∙ placed);
        };
        boxed = does.boxed;
      }

-- ---- all that is kept

opening_plain : IsPlain opening
opening_plain = record { rules = refl; run = λ j x at. nowhere at; due = λ j x at. nowhere at }

-- where nothing is kept
pub opens : (known : Holdings) (f : Forest) → known ≡ library.nothing → ((names : ℕ → List ℕ) → sites_of names f ≡ empty)
    → state_of (record { known = known; forest = f; ended = []; next = 1 }) ≡ opening
unfolding with_library
opens known f none sites = λ i. with_holdings (record opening { next = 1; sites = sites (names_of known) i; ended = empty }) (none i)

pub opening_stands : (h : Standing) → state_of h ≡ opening → IsForest h.forest → MayStand h
unfolding with_library
opening_stands h is boxed =
    record {
      held = record { library = refl; rules = refl; boxed = boxed; sites = refl; well = subst (IsWell reader) (sym is) (opening_is_well reader) };
      plain = subst IsPlain (sym is) opening_plain;
      no_worklet = subst HasNoWorklet (sym is) (record { started = λ j x at. nowhere at });
    }
