-- What an event may take away.
use Rattle.std.proofs.Common.{ap, inl, inr, refl, subst, sym, ◌∙◌}
use Rattle.std.proofs.lemmas.Bool.{and_parts}
use Rattle.std.proofs.lemmas.Slice.Eq.{bytes_eq-Decides}
use Rattle.std.specs.Prelude.{◌≡◌, ◌⊎◌, ◌&&◌, [], ◌∷◌, ℕ, Bool, false, is_none, None, option_map, Option, Some, SomeIff, true}
use Rattle.yw_base.specs.Identity.{is_identity, under}
use Rattle.yw_state.proofs.Tests.{never}
use Rattle.yw_state.specs.Identity.{Ident, same}
use Rattle.yw_state.specs.declared.event.Event.{Event}
use Rattle.yw_state.specs.declared.event.Event.TheVariants as events
use Rattle.yw_tree.specs.declared.Forest.{Forest}
use Rattle.yw_worklist.proofs.Warming.{Ids, as_adds}
use Rattle.yw_worklist.specs.Lists.{Places, has_place}
use Rattle.yw_worklist.specs.Touched.{Adds, is_gone, takes}

module _ (p : Places) (f : Forest) (old new : Ids) where
  -- what has a place under the identity, and is gone
  abbrev under_one : Ident → Ident → Bool
  under_one top j = has_place p j && (under j top && is_gone f j)

  pub found_reached : (found : Option Ident) (x : Ident) → found ≡ Some x → Adds old new (under_one x) → (top : Ident)
      → SomeIff found (is_identity top ≡ true) top → Adds old new (under_one top)
  found_reached found x is adds top iff =
      subst (λ (i : Ident). Adds old new (under_one i)) (subst (λ o. SomeIff o (is_identity top ≡ true) top) is iff).1 adds

  pub all_reached : (top : Ident) → Adds old new (has_place p) → Adds old new (under_one top)
  all_reached top adds =
      as_adds old new (has_place p) (under_one top) adds (λ j identity e. (and_parts (has_place p j) (under j top && is_gone f j) e).0)

  -- of the same event
  taken_by : (e d : Event) → e ≡ d → Adds old new (λ j. has_place p j && takes f d j) → Adds old new (λ j. has_place p j && takes f e j)
  taken_by e d same_event adds = subst (λ (k : Event). Adds old new (λ j. has_place p j && takes f k j)) (sym same_event) adds

  pub by_end : (e : Event) (n : ℕ) → (e ≡ events.Finish n) ⊎ (e ≡ events.Cancel n) → Adds old new (under_one (n ∷ []))
      → Adds old new (λ j. has_place p j && takes f e j)
  by_end e n is adds = elim is [
    | inl ends ↦ taken_by e (events.Finish n) ends adds
    | inr cancels ↦ taken_by e (events.Cancel n) cancels adds
  ]

-- this identity, where nothing stands there
pub gone_added : (f : Forest) (old new : Ids) (at : Ident) → Adds old new (λ j. same j at) → Adds old new (λ j. same j at && is_gone f j)
gone_added f old new at adds =
    as_adds old new (λ j. same j at) (λ j. same j at && is_gone f j) adds (λ j identity e. (and_parts (same j at) (is_gone f j) e).0)

pub none_gone : (f : Forest) (ids : Ids) (at : Ident) → is_gone f at ≡ false → Adds ids ids (λ j. same j at && is_gone f j)
none_gone f ids at stands = record {
  was = λ j e. e;
  passing = λ j identity e.
      let parts = and_parts (same j at) (is_gone f j) e in
      never (sym stands ∙ ap (is_gone f) (sym ((bytes_eq-Decides j at).0 parts.0)) ∙ parts.1);
}

pub still_none : {A B : Type 0} (g : A → B) (o : Option A) → is_none o ≡ is_none (option_map g o)
still_none g None = refl
still_none g (Some x) = refl
