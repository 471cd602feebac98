-- Persons are kept as they are known, and as events leave them.
use Rattle.std.proofs.Common.{ap, get_or, inl, inr, refl, subst, sym, take, ◌∙◌}
use Rattle.std.proofs.lemmas.Bool.{cond-false, cond-true}
use Rattle.std.proofs.lemmas.List.{map-append, take_more}
use Rattle.std.proofs.lemmas.List.Elements.{filter_map-append}
use Rattle.std.proofs.lemmas.Slice.Eq.{bytes_eq-Decides}
use Rattle.std.specs.List.{cons_option, filter_map}
use Rattle.std.specs.Prelude.{◌≡◌, ◌⊎◌, ◌+◌, ◌<◌, ◌++◌, [], ◌∷◌, ℕ, length, List, map, None, Option, option_to_list, Some}
use Rattle.std.specs.Str.{bytes_eq}
use Rattle.yw_accepted.proofs.Loaded.{accepted_are_sound}
use Rattle.yw_invariant.proofs.EventsWell.{event_keeps_well}
use Rattle.yw_library.specs.Held.{IsHeld}
use Rattle.yw_library.specs.Holdings.{Holdings, person_name, roles_under, with_library}
use Rattle.yw_library.specs.declared.items.Person.{Person}
use Rattle.yw_texts.specs.Texts.{reader}
use Rattle.yw_shown.proofs.Elements.{in_one}
use Rattle.yw_shown.proofs.Keys.{firsts, found_listed}
use Rattle.yw_state.proofs.Apart.{leaves_other_cases}
use Rattle.yw_state.proofs.Entries.{IsIn}
use Rattle.yw_state.proofs.MapEntries.{get-of_entries}
use Rattle.yw_state.proofs.MapLemmas.{by_name, get-insert_other}
use Rattle.yw_state.proofs.Tests.{by_option, by_test, never, nowhere}
use Rattle.yw_state.specs.Allowed.{Allowed}
use Rattle.yw_state.specs.Automatic.{case_of}
use Rattle.yw_state.specs.Events.{LeadAll, after}
use Rattle.yw_state.specs.Map.{get}
use Rattle.yw_state.specs.State.{State}
use Rattle.yw_state.specs.Texts.{Said, a_spec, a_test, nothing}
use Rattle.yw_state.specs.Well.{IsWell}
use Rattle.yw_state.specs.declared.event.Event.{Event}
use Rattle.yw_state.specs.declared.event.Event.TheVariants as events
use Rattle.yw_tree.specs.declared.Forest.{Forest}
use Rattle.yw_worklist.specs.People.{Asks, SetsRoles, known_roles, person_of, roles_in}
use Rattle.yw_worklist.specs.declared.people.People.{People}

-- ---- one person, and several

module _ (known : Holdings) where
  pub asked : (old new : People) (name : List ℕ) (roles : Option (List (List ℕ))) → SetsRoles old new name roles → roles ≡ known_roles known name
      → Asks known old new (name ∷ [])
  asked old new name roles sets are = record {
    right = λ who e. by_test (bytes_eq name who)
        (λ t.
        sets who ∙ cond-true (bytes_eq name who) roles (roles_in old who) t ∙ are ∙ ap (known_roles known) ((bytes_eq-Decides name who).0 t))
        (λ f.
        sets who ∙ cond-false (bytes_eq name who) roles (roles_in old who) f ∙ elim e [
          | inl was ↦ was
          | inr there ↦ elim there [ inl same ↦ never (sym f ∙ (bytes_eq-Decides name who).1 same) | inr none ↦ absurd none ]
        ]);
  }

  pub none_asked : (p : People) → Asks known p p []
  none_asked p = record { right = λ who e. elim e [ inl was ↦ was | inr none ↦ absurd none ] }

  pub then_asked : (old mid new : People) (xs ys : List (List ℕ)) → Asks known old mid xs → Asks known mid new ys → Asks known old new (xs ++ ys)
  then_asked old mid new xs ys first second = record {
    right = λ who e. second.right who (elim e [
      | inl was ↦ inl (first.right who (inl was))
      | inr there ↦ elim (in_one xs ys who there) [ inl before ↦ inl (first.right who (inr before)) | inr later ↦ inr later ]
    ]);
  }

  pub person_asked : (old mid new : People) (ps : List Person) (i : ℕ) (p : Person) → i < length ps → p ≡ get_or ps i p
      → Asks known old mid (map person_name (take i ps)) → Asks known mid new (person_name p ∷ []) → Asks known old new (map person_name (take (i + 1) ps))
  person_asked old mid new ps i p lt at first second =
      let more : map person_name (take (i + 1) ps) ≡ map person_name (take i ps) ++ person_name p ∷ [] =
      ap (map person_name) (take_more ps i p lt ∙ ap (λ q. take i ps ++ q ∷ []) (sym at)) ∙ map-append person_name (take i ps) (p ∷ []) in
      subst (Asks known old new) (sym more) (then_asked old mid new (map person_name (take i ps)) (person_name p ∷ []) first second)

  one_or_none : (o : Option (List ℕ)) → cons_option o [] ≡ option_to_list o
  one_or_none None = refl
  one_or_none (Some x) = refl

  pub event_asked : (old mid new : People) (es : List Event) (i : ℕ) (e : Event) → i < length es → e ≡ get_or es i e
      → Asks known old mid (filter_map person_of (take i es)) → Asks known mid new (option_to_list (person_of e))
      → Asks known old new (filter_map person_of (take (i + 1) es))
  event_asked old mid new es i e lt at first second =
      let more : filter_map person_of (take (i + 1) es) ≡ filter_map person_of (take i es) ++ option_to_list (person_of e) =
      ap (filter_map person_of) (take_more es i e lt ∙ ap (λ q. take i es ++ q ∷ []) (sym at)) ∙ filter_map-append person_of (take i es) (e ∷ [])
      ∙ ap (λ z. filter_map person_of (take i es) ++ z) (one_or_none (person_of e)) in
      subst (Asks known old new) (sym more) (then_asked old mid new (filter_map person_of (take i es)) (option_to_list (person_of e)) first second)

  -- ---- whom is known

  pub people_held : (f : Forest) (s : State) → IsHeld known f s → (who : List ℕ) → known_roles known who ≡ get s.persons who
  unfolding with_library
  people_held f s held who = ap (λ (t : State). get t.persons who) (sym held.library)

  names_are : (ps : List Person) → firsts (map roles_under ps) ≡ map person_name ps
  names_are [] = refl
  names_are (p ∷ ps) = ap (λ z. person_name p ∷ z) (names_are ps)

  pub known_listed : (who : List ℕ) → (known_roles known who ≡ None) ⊎ IsIn (map person_name known.persons) who
  unfolding with_library
  known_listed who = by_option (known_roles known who)
      (λ none. inl none)
      (λ roles e. inr (subst (λ names. IsIn names who) (names_are known.persons)
      (found_listed (map roles_under known.persons) who roles (sym (get-of_entries by_name (map roles_under known.persons) who) ∙ e))))

-- ---- behind events

abbrev Keeps : State → State → List (List ℕ) → List ℕ → Type 0
Keeps s t names who = IsIn names who ⊎ (get t.persons who ≡ get s.persons who)

of_no_case : (s : State) (e : Event) (said : Said) (who : List ℕ) → case_of e ≡ None → Keeps s (after s e said) (option_to_list (person_of e)) who
unfolding after
of_no_case s (events.Person name roles) said who is = by_test (bytes_eq name who)
    (λ t. inl (inl ((bytes_eq-Decides name who).0 t)))
    (λ f. inr (get-insert_other by_name s.persons name roles who (λ same. never (sym f ∙ (bytes_eq-Decides name who).1 (sym same)))))
of_no_case s (events.Load name text) nothing who is = inr refl
of_no_case s (events.Load name text) (a_spec spec) who is = inr refl
of_no_case s (events.Load name text) (a_test test) who is = inr refl
of_no_case s (events.AddRule p at side when conclusion number) nothing who is = inr refl
of_no_case s (events.AddRule p at side when conclusion number) (a_spec spec) who is = inr refl
of_no_case s (events.AddRule p at side when conclusion number) (a_test test) who is = inr refl
of_no_case s e said who is = nowhere (sym is)

person_stays : (s : State) (e : Event) (said : Said) → IsWell reader s → Allowed s e said → (who : List ℕ)
    → Keeps s (after s e said) (option_to_list (person_of e)) who
person_stays s e said well ok who = by_option (case_of e)
    (λ none. of_no_case s e said who none)
    (λ n is. inr (ap (λ m. get m who) (leaves_other_cases n s e said well.numbers well.parents ok is).persons))

either_in : (o : Option (List ℕ)) (xs : List (List ℕ)) (x : List ℕ) → IsIn (option_to_list o) x ⊎ IsIn xs x → IsIn (cons_option o xs) x
either_in None xs x (inl none) = absurd none
either_in None xs x (inr there) = there
either_in (Some y) xs x (inl (inl same)) = inl same
either_in (Some y) xs x (inl (inr none)) = absurd none
either_in (Some y) xs x (inr there) = inr there

pub people_follow : (es : List Event) (s t : State) → IsWell reader s → LeadAll reader s es t → (who : List ℕ)
    → IsIn (filter_map person_of es) who ⊎ (get t.persons who ≡ get s.persons who)
people_follow [] s t well leads who = inr (ap (λ (u : State). get u.persons who) leads)
people_follow (e ∷ es) s t well leads who =
    let (mid, first, rest) = leads in
    let later = people_follow es mid t (event_keeps_well reader accepted_are_sound s well e mid first) rest who in
    let now : Keeps s mid (option_to_list (person_of e)) who =
    subst (λ (u : State). Keeps s u (option_to_list (person_of e)) who) (sym first.then) (person_stays s e first.said well first.allowed who) in
    elim now [
      | inl named ↦ inl (either_in (person_of e) (filter_map person_of es) who (inl named))
      | inr same ↦ elim later [
        | inl named ↦ inl (either_in (person_of e) (filter_map person_of es) who (inr named))
        | inr again ↦ inr (again ∙ same)
      ]
    ]
