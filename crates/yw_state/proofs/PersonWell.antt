-- What is well stays well when a person's roles are set.
use Rattle.std.specs.Prelude.{◌≡◌, ◌⊎◌, ℕ, List, Some, IsTrue}
use Rattle.std.proofs.Common.{subst, inl, inr}
use Rattle.yw_state.proofs.MapLemmas.{by_name, insert_stands}
use Rattle.yw_state.proofs.Alike.{KnowsMore, LearnsRight, later, later_is_well, untouched}
use Rattle.yw_state.specs.Allowed.{Allowed, allows, are_roles}
use Rattle.yw_state.specs.Events.{after}
use Rattle.yw_state.specs.Map.{get, insert}
use Rattle.yw_state.specs.State.{State}
use Rattle.yw_state.specs.Texts.{Reader, Said}
use Rattle.yw_state.specs.Well.{IsWell}
use Rattle.yw_state.specs.declared.event.Event.TheVariants as events

module _ (s : State) (name : List ℕ) (roles : List (List ℕ)) where
  abbrev with_person : State
  with_person = later s s.specs (insert s.persons name roles) s.rules s.sites

  person_fits : IsTrue (are_roles roles) → (other : List ℕ) (found : List (List ℕ)) → get (insert s.persons name roles) other ≡ Some found → (get s.persons other ≡ Some found) ⊎ IsTrue (are_roles found)
  person_fits are other found e = old_or_new (insert_stands by_name s.persons name roles other found e)
    where
      old_or_new : (other ≡ name) × (roles ≡ found) ⊎ (get s.persons other ≡ Some found) → (get s.persons other ≡ Some found) ⊎ IsTrue (are_roles found)
      old_or_new (inl here) = inr (subst (λ rs. IsTrue (are_roles rs)) here.1 are)
      old_or_new (inr there) = inl there

  knows : KnowsMore s with_person
  knows = record { specs = λ other l e. e; rules = λ place e. e }

  learns : (reader : Reader) → IsTrue (are_roles roles) → LearnsRight reader s with_person
  learns reader are = record { spec_text = λ other l e. inl e; spec_name = λ other l e. inl e; person = person_fits are; rules = λ key rs e. inl e }

  pub person_keeps_well : (reader : Reader) (said : Said) → IsWell reader s → Allowed s (events.Person name roles) said → IsWell reader (after s (events.Person name roles) said)
  unfolding allows after
  person_keeps_well reader said well allowed = let persons = insert s.persons name roles in
      later_is_well s s.specs persons s.rules s.sites reader knows (untouched s s.specs persons s.rules s.sites well.marks) (learns reader allowed.0) well
