-- A library that is made of rows and texts.
use Rattle.std.proofs.Common.{◌≡◌, ◌∙◌, ◌∷◌, [], ℕ, List, Bool, true, false, inl, inr, map, refl, sym, ap, subst}
use Rattle.std.specs.List.{list_all}
use Rattle.std.specs.Prelude.{◌&&◌, All}
use Rattle.yw_library.specs.Holdings.{Holdings, SaysItsText, roles_under, spec_under, with_library}
use Rattle.yw_revive.proofs.Persons.{all_persons}
use Rattle.yw_revive.proofs.Texts.{all_texts, of_state, only_specs, specs_in, specs_under}
use Rattle.yw_revive.specs.Names.{AreSpecsOf, HasNames, IsNamed, are_roles_of, person_of}
use Rattle.yw_state.proofs.Entries.{IsIn, find-entry}
use Rattle.yw_state.proofs.MapEntries.{get-of_entries}
use Rattle.yw_state.proofs.MapLemmas.{by_name, same_map}
use Rattle.yw_state.proofs.Tests.{never}
use Rattle.yw_state.specs.Allowed.{are_roles}
use Rattle.yw_state.specs.Map.{Map, entries, lexical, of_entries}
use Rattle.yw_state.specs.State.{State}
use Rattle.yw_state.specs.Well.{IsWell}
use Rattle.yw_state.specs.declared.loaded.Loaded.{Loaded}
use Rattle.yw_states.specs.Ascending.{ascend}
use Rattle.yw_states.specs.Rows.{person_before}
use Rattle.yw_states.specs.States.{person_row, text_row}
use Rattle.yw_states.specs.declared.kept.PersonRow.{PersonRow}
use Rattle.yw_texts.specs.Texts.{reader}

-- ---- the roles of a state that is well

both_true : (p q : Bool) → p ≡ true → q ≡ true → (p && q) ≡ true
both_true p q e d = cc

roles_fit : (es : List (List ℕ × List (List ℕ))) → ((e : List ℕ × List (List ℕ)) → IsIn es e → are_roles e.1 ≡ true)
    → list_all are_roles_of (map person_row es) ≡ true
roles_fit [] each = refl
roles_fit (e ∷ es) each = both_true _ _ (each e (inl refl)) (roles_fit es (λ d within. each d (inr within)))

pub roles_of_state : (s : State) → IsWell reader s → (rows : List PersonRow) → map person_row (entries s.persons) ≡ rows → list_all are_roles_of rows ≡ true
roles_of_state s well rows is =
    ap (list_all are_roles_of) (sym is)
    ∙ roles_fit (entries s.persons) (λ e within. well.content.person e.0 e.1 (find-entry by_name (entries s.persons) e s.persons.sorted within))

-- ---- no state

pub none_fits : (rows : List PersonRow) (texts : List (List ℕ)) → list_all are_roles_of rows ≡ false → (s : State) → IsWell reader s → HasNames s rows texts
    → ⊥
none_fits rows texts fails s well has = never (sym fails ∙ roles_of_state s well rows has.of_persons)

pub none_loads : (rows : List PersonRow) (texts : List (List ℕ)) → ((ls : List Loaded) → AreSpecsOf texts ls → ⊥) → (s : State) → IsWell reader s
    → HasNames s rows texts → ⊥
none_loads rows texts none s well has = none (specs_in s) (of_state s well texts has.of_texts)

-- ---- the library

map_kept : {X : Type 0} (m : Map lexical X) (es : List (List ℕ × X)) → es ≡ entries m → m ≡ of_entries es
map_kept m es is = sym (ap (of_entries {R = lexical}) is ∙ same_map by_name _ _ (get-of_entries by_name (entries m)))

persons_under : (es : List (List ℕ × List (List ℕ))) → map roles_under (map person_of (map person_row es)) ≡ es
persons_under [] = refl
persons_under (e ∷ es) = ap (λ z. e ∷ z) (persons_under es)

pub is_named : (rows : List PersonRow) (texts : List (List ℕ)) (library : Holdings) → ascend person_before rows ≡ true
    → list_all are_roles_of rows ≡ true → library.persons ≡ map person_of rows → AreSpecsOf texts library.specs → IsNamed rows texts library
unfolding with_library
is_named rows texts library up fit persons are =
    record {
      has = λ s. record {
        of_persons = ap (λ ps. map person_row (entries (of_entries {R = lexical} (map roles_under ps)))) persons ∙ all_persons rows up;
        of_texts = all_texts texts library.specs are;
      };
      roles = fit;
      specs = are;
      only = λ s well has.
          let same : library.specs ≡ specs_in s = only_specs texts library.specs (specs_in s) are (of_state s well texts has.of_texts) in
          let people : map roles_under library.persons ≡ entries s.persons
          = ap (map roles_under) persons ∙ ap (λ rs. map roles_under (map person_of rs)) (sym has.of_persons) ∙ persons_under (entries s.persons) in
          ap (λ (m : Map lexical Loaded). record s { specs = m }) (map_kept s.specs (map spec_under library.specs) (ap (map spec_under) same ∙ specs_under s well))
          ∙ ap (λ (m : Map lexical (List (List ℕ))). record s { specs = of_entries (map spec_under library.specs); persons = m })
          (map_kept s.persons (map roles_under library.persons) people);
    }
