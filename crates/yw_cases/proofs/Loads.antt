-- A person, and a specification that is loaded.
use Rattle.std.proofs.Common.{ap, refl, subst, sym, ◌∙◌}
use Rattle.std.specs.Prelude.{Bool, Err, IfOk, List, Ok, Result, false, true, ℕ, ◌≡◌}
use Rattle.yw_library.specs.Ended.{ended_of}
use Rattle.yw_cases.specs.Said.{TellsLoaded}
use Rattle.yw_cases.specs.State.{MayStand}
use Rattle.yw_known.proofs.Names.{load_keeps_sites}
use Rattle.yw_library.specs.Names.{names_of}
use Rattle.yw_library.specs.Always.{AlwaysLeads, IsTried}
use Rattle.yw_library.specs.Holdings.{AddsSpec, Holdings, with_library, with_person}
use Rattle.yw_standing.specs.State.{state_of}
use Rattle.yw_standing.specs.Tried.{IsDone, LeadsNowhere, LeadsOn, TellsLeads}
use Rattle.yw_standing.specs.declared.standing.Standing.{Standing}
use Rattle.yw_texts.proofs.Loading.{person_leads, person_leads_to, person_roles}
use Rattle.yw_texts.specs.Texts.{reader}
use Rattle.yw_state.proofs.Tests.{never}
use Rattle.yw_state.specs.Allowed.{are_roles}
use Rattle.yw_state.specs.Events.{Leads, after}
use Rattle.yw_state.specs.State.{Sites, State, opening}
use Rattle.yw_state.specs.Texts.{nothing}
use Rattle.yw_state.specs.declared.event.Event.TheVariants as events
use Rattle.yw_tree.specs.Forest.{sites_of}
use Rattle.yw_trees.specs.Placed.{Placed, rules_of}

module _ (old : Standing) where
  -- all but persons and specifications
  abbrev base : Sites → State
  base m = record opening { rules = rules_of old.known.rules; next = old.next; sites = m; ended = ended_of old.ended }

  whole : with_library (base (sites_of (names_of old.known) old.forest)) old.known ≡ state_of old
  unfolding with_library
  whole = refl

  -- so it is with others, where the rules are the same
  whole_then : (new : Holdings) → new.rules ≡ old.known.rules
      → with_library (base (sites_of (names_of new) old.forest)) new ≡ state_of (record old { known = new })
  unfolding with_library
  whole_then new same =
      ap
      (λ (ts : List Placed).
      let u : State = record opening { next = old.next; sites = sites_of (names_of new) old.forest; ended = ended_of old.ended } in
      record (with_library u new) { rules = rules_of ts })
      (sym same)

  no_person : (name : List ℕ) (roles : List (List ℕ)) → are_roles roles ≡ false → LeadsNowhere old (events.Person name roles)
  no_person name roles wrong t leads = never (sym wrong ∙ person_roles (state_of old) t name roles leads)

  module _ (may : MayStand old) (new : Holdings) where
    pub person_done : (name : List ℕ) (roles : List (List ℕ)) → are_roles roles ≡ true
        → ((s : State) → with_library s new ≡ after (with_library s old.known) (events.Person name roles) nothing)
        → new ≡ with_person old.known (record { name = name; roles = roles }) → IsDone old (events.Person name roles) (record old { known = new })
    person_done name roles right reached place =
        let names : names_of new ≡ names_of old.known = ap (λ (z : Holdings). names_of z) place in
        record {
          leads = person_leads_to (state_of old) (state_of (record old { known = new })) name roles right
              (sym (whole_then new (ap (λ (z : Holdings). z.rules) place))
              ∙ ap (λ (z : ℕ → List ℕ). with_library (base (sites_of z old.forest)) new) names
              ∙ reached (base (sites_of (names_of old.known) old.forest))
              ∙ ap (λ (u : State). after u (events.Person name roles) nothing) whole);
          boxed = may.held.boxed;
        }

    pub load_done : (name text : List ℕ) → AlwaysLeads old.known (events.Load name text) new → AddsSpec old.known new name text
        → IsDone old (events.Load name text) (record old { known = new })
    load_done name text always adds =
        let sites : sites_of (names_of old.known) old.forest ≡ sites_of (names_of new) old.forest =
        load_keeps_sites old.known old.forest (state_of old) adds.loaded may.held ∙ ap (λ (z : Holdings). sites_of (names_of z) old.forest) (sym adds.behind) in
        record {
          leads = subst (λ (u : State). Leads reader u (events.Load name text) (state_of (record old { known = new }))) whole
              (subst (Leads reader (with_library (base (sites_of (names_of old.known) old.forest)) old.known) (events.Load name text))
              (ap (λ (m : Sites). with_library (base m) new) sites ∙ whole_then new (ap (λ (z : Holdings). z.rules) adds.behind))
              (always (base (sites_of (names_of old.known) old.forest))));
          boxed = may.held.boxed;
        }

    -- a load under a name leads on, or nowhere
    pub loads_as : {E : Type 0} (name text : List ℕ) (result : Result Bool E) → IfOk result (λ leads. IsTried old.known (events.Load name text) leads new)
        → (result ≡ Ok true → AddsSpec old.known new name text) → IfOk result (λ leads. TellsLoaded old name text leads (record old { known = new }))
    loads_as name text (Ok true) tried adds = load_done name text tried (adds refl)
    loads_as name text (Ok false) tried adds = (
      λ t leads. tried.0 (base (sites_of (names_of old.known) old.forest)) t
          (subst (λ (u : State). Leads reader u (events.Load name text) t) (sym whole) leads),
      ap (λ (z : Holdings). record old { known = z }) tried.1,
    )
    loads_as name text (Err fault) tried adds = tt

  pub person_so : (name : List ℕ) (roles : List (List ℕ)) → LeadsOn old (events.Person name roles) → are_roles roles ≡ true
  person_so name roles leads = person_roles (state_of old) leads.0 name roles leads.1

  pub tells_person : (name : List ℕ) (roles : List (List ℕ)) (b : Bool) → are_roles roles ≡ b → TellsLeads old (events.Person name roles) b
  tells_person name roles true e = (after (state_of old) (events.Person name roles) nothing, person_leads (state_of old) name roles e)
  tells_person name roles false e = no_person name roles e
