-- What is well stays well when a specification is loaded under a name that is new.
use Rattle.std.specs.Prelude.{◌≡◌, ◌⊎◌, ℕ, false, not, List, Some, Ok, is_some}
use Rattle.std.specs.Str.{bytes_eq}
use Rattle.std.proofs.Common.{sym, ◌∙◌, ap, subst, inl, inr}
use Rattle.std.proofs.lemmas.Bool.{and_parts, not-true}
use Rattle.std.proofs.lemmas.Slice.Eq.{bytes_eq-Decides}
use Rattle.yw_spec.specs.declared.spec.Spec.{Spec}
use Rattle.yw_state.proofs.MapLemmas.{by_name, get-insert_other, insert_stands, never}
use Rattle.yw_state.proofs.Alike.{KnowsMore, LearnsRight, later, later_is_well, untouched}
use Rattle.yw_state.specs.Allowed.{Allowed, allows}
use Rattle.yw_state.specs.Events.{after}
use Rattle.yw_state.specs.Map.{get, has_key, insert}
use Rattle.yw_state.specs.State.{State}
use Rattle.yw_state.specs.declared.loaded.Loaded.{Loaded}
use Rattle.yw_state.specs.Texts.{Reader, Said, Says, a_spec}
use Rattle.yw_state.specs.Well.{IsWell}
use Rattle.yw_state.specs.declared.event.Event.TheVariants as events

module _ (s : State) (name text : List ℕ) (spec : Spec) where
  abbrev loaded : Loaded
  loaded = record { text = text; spec = spec }

  abbrev with_spec : State
  with_spec = later s (insert s.specs name loaded) s.persons s.rules s.sites

  knows : has_key s.specs name ≡ false → KnowsMore s with_spec
  knows new =
      record {
        specs = λ other l e.
            get-insert_other by_name s.specs name loaded other (λ same. never (sym new ∙ ap is_some (ap (get s.specs) (sym same) ∙ e))) ∙ e;
        rules = λ place e. e;
      }

  -- what is found is as before, or the new one
  found_fits : (P : List ℕ → Loaded → Type 0) → P name loaded → (other : List ℕ) (l : Loaded) → get (insert s.specs name loaded) other ≡ Some l → (get s.specs other ≡ Some l) ⊎ P other l
  found_fits P fits other l e = old_or_new (insert_stands by_name s.specs name loaded other l e)
    where
      old_or_new : (other ≡ name) × (loaded ≡ l) ⊎ (get s.specs other ≡ Some l) → (get s.specs other ≡ Some l) ⊎ P other l
      old_or_new (inl here) = inr (subst (λ n. P n l) (sym here.0) (subst (P name) here.1 fits))
      old_or_new (inr there) = inl there

  learns : (reader : Reader) → reader.spec text (Ok spec) → spec.name ≡ name → LearnsRight reader s with_spec
  learns reader says named =
      record {
        spec_text = found_fits (λ other l. reader.spec l.text (Ok l.spec)) says;
        spec_name = found_fits (λ other l. l.spec.name ≡ other) named;
        person = λ other roles e. inl e;
        rules = λ key rs e. inl e;
      }

  loaded_is_well : (reader : Reader) → reader.spec text (Ok spec) → IsWell reader s → Allowed s (events.Load name text) (a_spec spec) → IsWell reader (after s (events.Load name text) (a_spec spec))
  unfolding allows after
  loaded_is_well reader says well allowed =
      let parts = and_parts (bytes_eq spec.name name) (not (has_key s.specs name)) allowed.0 in
      let specs = insert s.specs name loaded in
      later_is_well s specs s.persons s.rules s.sites reader (knows (not-true _ parts.1)) (untouched s specs s.persons s.rules s.sites well.marks) (learns reader says ((bytes_eq-Decides spec.name name).0 parts.0)) well

pub load_keeps_well : (reader : Reader) (s : State) (name text : List ℕ) (said : Said) → IsWell reader s → Says reader s (events.Load name text) said → Allowed s (events.Load name text) said → IsWell reader (after s (events.Load name text) said)
load_keeps_well reader s name text said well says =
    subst (λ x. Allowed s (events.Load name text) x → IsWell reader (after s (events.Load name text) x)) (sym says.2)
    (loaded_is_well s name text says.0 reader says.1 well)
