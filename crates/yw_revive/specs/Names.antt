-- Persons and specifications, and the rows that they are of.
use Rattle.std.specs.List.{list_all}
use Rattle.std.specs.Ordering.{is_lt}
use Rattle.std.specs.Prelude.{◌≡◌, ℕ, List, Bool, true, false, map, All, Option, Some, None, Result, Ok, Err}
use Rattle.yw_library.specs.Holdings.{Holdings, SaysItsText, with_library}
use Rattle.yw_library.specs.declared.fault.LibraryFault.{LibraryFault}
use Rattle.yw_library.specs.declared.fault.LibraryFault.TheVariants as faults
use Rattle.yw_library.specs.declared.items.Person.{Person}
use Rattle.yw_state.specs.Allowed.{are_roles}
use Rattle.yw_state.specs.Map.{entries, lexical}
use Rattle.yw_state.specs.State.{State}
use Rattle.yw_state.specs.Well.{IsWell}
use Rattle.yw_state.specs.declared.loaded.Loaded.{Loaded}
use Rattle.yw_state.specs.declared.rule.Refusal.{Refusal}
use Rattle.yw_states.specs.Ascending.{ascend}
use Rattle.yw_states.specs.States.{person_row, text_row}
use Rattle.yw_states.specs.declared.kept.PersonRow.{PersonRow}
use Rattle.yw_texts.specs.Texts.{reader}

-- ---- persons

abbrev pub person_of : PersonRow → Person
person_of row = record { name = row.name; roles = row.roles }

abbrev pub are_roles_of : PersonRow → Bool
are_roles_of row = are_roles row.roles

-- ---- texts

abbrev pub text_of : Loaded → List ℕ
text_of l = l.text

abbrev pub spec_before : Loaded → Loaded → Bool
spec_before a b = is_lt (lexical a.spec.name b.spec.name)

-- These are the specifications of the texts.
pub record AreSpecsOf (texts : List (List ℕ)) (ls : List Loaded) : Type 0 where
  pub texted : map text_of ls ≡ texts
  pub accepted : All SaysItsText ls
  pub up : ascend spec_before ls ≡ true

-- Whether it was loaded, or was refused.
abbrev pub TellsLoaded : Result (List ℕ) LibraryFault → Bool → Type 0
TellsLoaded found true = (name : List ℕ) × (found ≡ Ok name)
TellsLoaded found false = (refusal : Refusal) × (found ≡ Err (faults.Refused refusal))

-- All are loaded; or nothing is of these texts.
abbrev pub LoadsTexts : Holdings → List (List ℕ) → Bool → Holdings → Type 0
LoadsTexts old texts true new = (new.persons ≡ old.persons) × (map text_of new.specs ≡ texts)
LoadsTexts old texts false new = (ls : List Loaded) → AreSpecsOf texts ls → ⊥

-- All are loaded, with their names in order; or nothing is of these texts.
abbrev pub LoadsAll : Holdings → List (List ℕ) → Bool → Holdings → Type 0
LoadsAll old texts true new = (new.persons ≡ old.persons) × AreSpecsOf texts new.specs
LoadsAll old texts false new = (ls : List Loaded) → AreSpecsOf texts ls → ⊥

-- ---- both

-- The state has these rows of persons, and these texts.
pub record HasNames (s : State) (persons : List PersonRow) (texts : List (List ℕ)) : Type 0 where
  pub of_persons : map person_row (entries s.persons) ≡ persons
  pub of_texts : map text_row (entries s.specs) ≡ texts

-- Each state with this library in it has these rows and texts, persons with roles that they may have, and what the texts say under its names; and
-- a state that is well and has them is one with this library in it.
pub record IsNamed (persons : List PersonRow) (texts : List (List ℕ)) (library : Holdings) : Type 0 where
  pub has : (s : State) → HasNames (with_library s library) persons texts
  pub roles : list_all are_roles_of persons ≡ true
  pub specs : AreSpecsOf texts library.specs
  pub only : (s : State) → IsWell reader s → HasNames s persons texts → s ≡ with_library s library

-- This library is, or no state that is well has these rows and texts.
abbrev pub IsLibraryOf : List PersonRow → List (List ℕ) → Option Holdings → Type 0
IsLibraryOf persons texts (Some library) = IsNamed persons texts library
IsLibraryOf persons texts None = (s : State) → IsWell reader s → HasNames s persons texts → ⊥
