-- What a library holds, in order, and the state that it stands for.
use Rattle.std.specs.Prelude.{◌≡◌, ℕ, List, [], ◌∷◌, ◌++◌, map, Some, All, slice_get, if◌then◌else◌}
use Rattle.std.specs.Str.{bytes_eq}
use Rattle.yw_spec.specs.declared.spec.Spec.{Spec}
use Rattle.yw_state.specs.Map.{get, of_entries}
use Rattle.yw_state.specs.State.{State, opening}
use Rattle.yw_state.specs.declared.loaded.Loaded.{Loaded}
use Rattle.yw_texts.specs.Texts.{IsAccepted}
use Rattle.yw_library.specs.declared.items.Person.{Person}
use Rattle.yw_library.specs.Numbers.{NumberedNames, AreFound, NoneNamed}
use Rattle.yw_state.specs.RuleTree.{TreeRule}
use Rattle.yw_state.specs.declared.tree.TreePlace.{TreePlace}
use Rattle.yw_trees.specs.Placed.{AllOwned, Placed, rules_of, with_rule}
use Rattle.yw_trees.specs.declared.owner.Owner.{Owner}

-- Persons in the order of their first coming, specifications in the order of loading, and the rules of trees in the order of their first
-- rules.
pub record Holdings : Type 0 where
  pub persons : List Person
  pub specs : List Loaded
  pub rules : List Placed

abbrev pub nothing : Holdings
nothing = record { persons = []; specs = []; rules = [] }

abbrev pub person_name : Person → List ℕ
person_name p = p.name

abbrev pub spec_name : Loaded → List ℕ
spec_name l = l.spec.name

abbrev pub roles_under : Person → List ℕ × List (List ℕ)
roles_under p = (p.name, p.roles)

abbrev pub spec_under : Loaded → List ℕ × Loaded
spec_under l = (l.spec.name, l)

-- The state s with these specifications by name and with these roles of persons, and all else of s, rules too.
unfoldable pub with_library : State → Holdings → State
with_library s library =
    record s { specs = of_entries (map spec_under library.specs); persons = of_entries (map roles_under library.persons) }

-- and so also with these rules
abbrev pub with_holdings : State → Holdings → State
with_holdings s library = record (with_library s library) { rules = rules_of library.rules }

-- persons and specifications, where no rule is added and no case stands
abbrev pub state_of : Holdings → State
state_of library = with_library opening library

-- ---- what stays so

-- the specification is the one that its text says, and the text is accepted
abbrev pub SaysItsText : Loaded → Type 0
SaysItsText l = IsAccepted l.text l.spec

-- Each person and each specification is found under its name by its number, and each specification is the one that its text says. Each tree
-- stands at a place of what has it.
pub record IsKeptRight (persons : List Person) (person_numbers : NumberedNames) (specs : List Loaded) (spec_numbers : NumberedNames) (rules : List Placed) : Type 0 where
  pub persons_found : AreFound person_name persons person_numbers
  pub specs_found : AreFound spec_name specs spec_numbers
  pub accepted : All SaysItsText specs
  pub owned : AllOwned specs rules

-- ---- changes

-- the person in the place of the first with this name, and else behind all others
abbrev pub put_person : Person → List Person → List Person
put_person new [] = new ∷ []
put_person new (p ∷ ps) = if bytes_eq p.name new.name then new ∷ ps else p ∷ put_person new ps

abbrev pub with_person : Holdings → Person → Holdings
with_person library new = record { persons = put_person new library.persons; specs = library.specs; rules = library.rules }

-- one specification more, behind all others
abbrev pub with_spec : Holdings → Loaded → Holdings
with_spec library loaded = record { persons = library.persons; specs = library.specs ++ loaded ∷ []; rules = library.rules }

-- one rule more
abbrev pub with_tree_rule : Holdings → Owner → TreePlace → TreeRule → Holdings
with_tree_rule library owner p r = record { persons = library.persons; specs = library.specs; rules = with_rule owner p r library.rules }

-- the persons and the rules are the same, and behind the specifications stands one more, with this name and this text
pub record AddsSpec (old new : Holdings) (name text : List ℕ) : Type 0 where
  pub loaded : Loaded
  pub behind : new ≡ with_spec old loaded
  pub named : loaded.spec.name ≡ name
  pub texted : loaded.text ≡ text

-- ---- what is found

-- The text is accepted and says this specification, of whose name none is loaded.
pub record IsFresh (library : Holdings) (text : List ℕ) (spec : Spec) : Type 0 where
  pub accepted : IsAccepted text spec
  pub new : NoneNamed spec_name library.specs spec.name

-- Under the name a text is loaded that says this specification. It is the one with this number.
pub record IsKept (library : Holdings) (name : List ℕ) (spec : Spec) (number : ℕ) : Type 0 where
  pub text : List ℕ
  pub kept : get (state_of library).specs name ≡ Some (record { text = text; spec = spec })
  pub stands : slice_get library.specs number ≡ Some (record { text = text; spec = spec })
  pub accepted : IsAccepted text spec

-- each specification is found under its name
abbrev pub AreNamed : Holdings → Type 0
AreNamed library = (k : ℕ) (l : Loaded) → slice_get library.specs k ≡ Some l → get (state_of library).specs l.spec.name ≡ Some l
