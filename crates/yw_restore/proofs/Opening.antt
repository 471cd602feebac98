-- When the state of what is kept is the opening state.
use Rattle.std.proofs.Common.{◌≡◌, ◌∙◌, ◌≤◌, ◌<◌, ◌∷◌, [], ℕ, List, Option, None, Some, map, ap, arith, cond, length, refl, sym}
use Rattle.std.specs.FinMap.Entries.{find}
use Rattle.std.specs.Prelude.{Bool, option_map}
use Rattle.yw_library.specs.Holdings.{person_name, roles_under, spec_under, with_library}
use Rattle.yw_restore.proofs.Drawn.{first_drawn, some_number}
use Rattle.yw_restore.specs.Gathers.{AreDrawn}
use Rattle.yw_restore.specs.Standing.{HasNothing, IsOf}
use Rattle.yw_restore.specs.declared.kept.Kept.{Kept}
use Rattle.yw_library.specs.Ended.{ended_of}
use Rattle.yw_state.proofs.MapEntries.{get-of_entries}
use Rattle.yw_state.proofs.MapLemmas.{by_name, by_names, by_number, same_map, tied_self}
use Rattle.yw_state.proofs.Tests.{by_option, nowhere}
use Rattle.yw_state.specs.Map.{Map, empty, entries, get, lexical, of_entries}
use Rattle.yw_state.specs.State.{State, opening}
use Rattle.yw_state.specs.Well.{NumbersFit}
use Rattle.yw_state.specs.declared.loaded.Loaded.{Loaded}
use Rattle.yw_state.specs.declared.part.Way.{Way}
use Rattle.std.specs.Ordering.{eq_by_cmp}

state_same : (s t : State) → s.specs ≡ t.specs → s.persons ≡ t.persons → s.rules ≡ t.rules → s.next ≡ t.next → s.sites ≡ t.sites → s.ended ≡ t.ended
    → s ≡ t
state_same s t specs persons rules next sites ended =
    λ i. record { specs = specs i; persons = persons i; rules = rules i; next = next i; sites = sites i; ended = ended i }

-- a map of no entries is made of none
of_none : {X : Type 0} (list : List (List ℕ × X)) → ◌≡◌ {A = Map lexical X} (of_entries list) empty → list ≡ []
of_none [] e = refl
of_none (e ∷ es) none =
    let here = get-of_entries by_name (e ∷ es) e.0 ∙ ap (λ (b : Bool). cond b (Some e.1) (find lexical e.0 es)) (tied_self by_name e.0) in
    nowhere (sym (ap (λ m. get m e.0) none) ∙ here)

none_mapped : {X Y : Type 0} (f : X → Y) (xs : List X) → map f xs ≡ [] → xs ≡ []
none_mapped f [] e = refl
none_mapped f (x ∷ xs) e = absurd (omega (arith, ap length e))

module _ (kept : Kept) (s : State) (is : IsOf kept s) where
  numbers : NumbersFit s
  numbers = is.held.well.numbers

  persons_of : s.persons ≡ of_entries (map roles_under kept.known.now.persons)
  unfolding with_library
  persons_of = ap (λ (t : State). t.persons) is.held.library

  specs_of : s.specs ≡ of_entries (map spec_under kept.known.now.specs)
  unfolding with_library
  specs_of = ap (λ (t : State). t.specs) is.held.library

  pub ended_drawn : AreDrawn kept.next (ended_of kept.ended.now)
  ended_drawn n way e =
      let at : get s.ended n ≡ Some way = ap (λ m. get m n) is.ended ∙ e in
      (numbers.ended_some n way at, omega (arith, is.next, numbers.ended_drawn n way at))

  pub opening_is : HasNothing kept → s ≡ opening
  opening_is nothing =
      let specs : s.specs ≡ empty = specs_of ∙ ap (λ ls. of_entries (map spec_under ls)) nothing.specs in
      let next : s.next ≡ 1 = is.next ∙ nothing.next in
      state_same s opening specs (persons_of ∙ ap (λ ps. of_entries (map roles_under ps)) nothing.persons)
      (same_map by_names s.rules empty (λ q. by_option (get s.rules q) (λ none. none) (λ rs e.
      let fit = is.held.well.content.rules q rs e in
      nowhere (sym (ap (λ (m : Map lexical Loaded). option_map (λ (l : Loaded). l.spec) (get m fit.place.spec)) specs) ∙ fit.of_spec))))
      next
      (same_map by_name s.sites empty (λ j. by_option (get s.sites j) (λ none. none) (λ x e.
      let identity = numbers.identities j x e in
      absurd (omega (arith, next, some_number j identity, first_drawn s.next j identity (numbers.drawn j x e)))))
      )
      (same_map by_number s.ended empty (λ n. by_option (get s.ended n) (λ none. none) (λ way e.
      absurd (omega (arith, next, numbers.ended_some n way e, numbers.ended_drawn n way e)))))

  pub nothing_at_opening : s ≡ opening → HasNothing kept
  nothing_at_opening e = record {
    next = sym is.next ∙ ap (λ (t : State). t.next) e;
    persons = none_mapped roles_under kept.known.now.persons
        (of_none (map roles_under kept.known.now.persons) (sym persons_of ∙ ap (λ (t : State). t.persons) e));
    specs = none_mapped spec_under kept.known.now.specs
        (of_none (map spec_under kept.known.now.specs) (sym specs_of ∙ ap (λ (t : State). t.specs) e));
  }
