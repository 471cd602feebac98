-- What a load and a person break, and what their events lead to.
use Rattle.std.proofs.Common.{◌≡◌, inl, inr, ℕ, List, Bool, true, false, None, Some, Ok, refl, sym, ap, ◌∙◌, subst}
use Rattle.std.specs.Prelude.{IsTrue, not, ◌&&◌}
use Rattle.std.specs.Str.{bytes_eq}
use Rattle.std.proofs.lemmas.Slice.Eq.{bytes_eq-Decides}
use Rattle.yw_spec.specs.declared.spec.Spec.{Spec}
use Rattle.yw_state.specs.Allowed.{allows, are_roles}
use Rattle.yw_state.specs.Broken.{Breaks, IsNameLoaded, checks, placeless}
use Rattle.yw_state.specs.Events.{Leads, after}
use Rattle.yw_state.specs.Legal.{IsAsked}
use Rattle.yw_state.specs.Map.{has_key}
use Rattle.yw_state.specs.State.{State}
use Rattle.yw_state.specs.Texts.{Said, nothing, a_spec}
use Rattle.yw_state.specs.declared.command.Command.TheVariants as commands
use Rattle.yw_state.specs.declared.event.Event.TheVariants as events
use Rattle.yw_state.specs.declared.rule.Refusal.{Refusal}
use Rattle.yw_state.specs.declared.rule.Rule.TheVariants.{SpecExists}
use Rattle.yw_texts.specs.Texts.{IsAccepted, IsUnfit, reader}
use Rattle.yw_texts.proofs.ReadingOnce.{accepted_fit, reads_one}

-- ---- persons

pub person_unbroken : (s : State) (name : List ℕ) (roles : List (List ℕ)) → Breaks reader s (commands.Person name roles) None
unfolding checks
person_unbroken s name roles = refl

pub person_asked : (s : State) (name : List ℕ) (roles : List (List ℕ)) → IsAsked reader s (commands.Person name roles) (events.Person name roles)
unfolding IsAsked
person_asked s name roles = refl

pub person_leads : (s : State) (name : List ℕ) (roles : List (List ℕ)) → are_roles roles ≡ true → Leads reader s (events.Person name roles) (after s (events.Person name roles) nothing)
unfolding allows
person_leads s name roles h = record { said = nothing; says = refl; allowed = (h, tt); then = refl }

pub person_roles : (s t : State) (name : List ℕ) (roles : List (List ℕ)) → Leads reader s (events.Person name roles) t → are_roles roles ≡ true
unfolding allows
person_roles s t name roles l = l.allowed.0

-- ---- loads

pub unfit_breaks : (s : State) (text : List ℕ) (refusal : Refusal) → IsUnfit text refusal → Breaks reader s (commands.Load text) (Some refusal)
unfolding checks
unfit_breaks s text refusal unfit = inl (refusal, unfit, refl)

module _ (s : State) (text : List ℕ) (spec : Spec) (a : IsAccepted text spec) where
  pub known_breaks : has_key s.specs spec.name ≡ true → Breaks reader s (commands.Load text) (Some (placeless SpecExists))
  unfolding checks
  known_breaks known = inr (λ refusal unfit. accepted_fit text spec refusal a unfit, inl ((spec, a, known), refl))

  same_spec : (other : Spec) → IsAccepted text other → other ≡ spec
  same_spec other b = let is : Ok other ≡ Ok spec = reads_one.spec text (Ok other) (Ok spec) b a in cc

  not_loaded : has_key s.specs spec.name ≡ false → IsNameLoaded reader s text → ⊥
  not_loaded free (other, b, known) =
      let here : has_key s.specs spec.name ≡ true = ap (λ (x : Spec). has_key s.specs x.name) (sym (same_spec other b)) ∙ known in
      cc

  pub new_unbroken : has_key s.specs spec.name ≡ false → Breaks reader s (commands.Load text) None
  unfolding checks
  new_unbroken free = inr (λ refusal unfit. accepted_fit text spec refusal a unfit, inr (not_loaded free, refl))

  pub load_asked : IsAsked reader s (commands.Load text) (events.Load spec.name text)
  unfolding IsAsked
  load_asked = (spec, a, refl)

  both_hold : (b c : Bool) → b ≡ true → c ≡ false → (b && not c) ≡ true
  both_hold b c e f = cc

  pub load_leads : has_key s.specs spec.name ≡ false → Leads reader s (events.Load spec.name text) (after s (events.Load spec.name text) (a_spec spec))
  unfolding allows
  load_leads free = record {
    said = a_spec spec;
    says = (spec, a, refl);
    allowed = (both_hold (bytes_eq spec.name spec.name) (has_key s.specs spec.name) ((bytes_eq-Decides spec.name spec.name).1 refl) free, tt);
    then = refl;
  }

-- ---- what a load that is allowed tells

-- Its text is accepted, and says a specification of its name, under which none was loaded.
pub record IsLoad (s : State) (name text : List ℕ) : Type 0 where
  pub spec : Spec
  pub accepted : IsAccepted text spec
  pub named : spec.name ≡ name
  pub new : has_key s.specs name ≡ false

left_holds : (b c : Bool) → (b && not c) ≡ true → b ≡ true
left_holds true c e = refl
left_holds false c e = cc

right_fails : (b c : Bool) → (b && not c) ≡ true → c ≡ false
right_fails true true e = cc
right_fails true false e = refl
right_fails false c e = cc

pub load_told : (s t : State) (name text : List ℕ) → Leads reader s (events.Load name text) t → IsLoad s name text
unfolding allows
load_told s t name text l =
    let spec = l.says.0 in
    let allowed : (bytes_eq spec.name name && not (has_key s.specs name)) ≡ true = subst (λ (said : Said). IsTrue (allows s (events.Load name text) said)) l.says.2 l.allowed.0 in
    record {
      spec = spec;
      accepted = l.says.1;
      named = (bytes_eq-Decides spec.name name).0 (left_holds (bytes_eq spec.name name) (has_key s.specs name) allowed);
      new = right_fails (bytes_eq spec.name name) (has_key s.specs name) allowed;
    }

pub load_unbroken : (s t : State) (name text : List ℕ) → Leads reader s (events.Load name text) t → Breaks reader s (commands.Load text) None
load_unbroken s t name text l =
    let told = load_told s t name text l in
    new_unbroken s text told.spec told.accepted (ap (has_key s.specs) told.named ∙ told.new)

pub load_is_asked : (s t : State) (name text : List ℕ) → Leads reader s (events.Load name text) t → IsAsked reader s (commands.Load text) (events.Load name text)
load_is_asked s t name text l =
    let told = load_told s t name text l in
    subst (λ (n : List ℕ). IsAsked reader s (commands.Load text) (events.Load n text)) told.named (load_asked s text told.spec told.accepted)

-- the state after a person's event is led to
pub person_leads_to : (s t : State) (name : List ℕ) (roles : List (List ℕ)) → are_roles roles ≡ true → t ≡ after s (events.Person name roles) nothing → Leads reader s (events.Person name roles) t
person_leads_to s t name roles h reached = subst (λ (u : State). Leads reader s (events.Person name roles) u) (sym reached) (person_leads s name roles h)
