-- Persons with their roles, by name. Our own.
use Rattle.indexmap.specs.IndexMap.{get}
use Rattle.std.specs.Prelude.{◌≡◌, ◌⊎◌, ℕ, cond, List, None, Option, Some}
use Rattle.std.specs.Str.{bytes_eq}
use Rattle.yw_library.specs.Holdings.{Holdings, state_of}
use Rattle.yw_state.proofs.Entries.{IsIn}
use Rattle.yw_state.specs.Map as map
use Rattle.yw_state.specs.declared.event.Event.{Event}
use Rattle.yw_state.specs.declared.event.Event.TheVariants as events
use Rattle.yw_worklist.specs.declared.people.People.{People}

-- the roles of the person with this name, where one is kept
abbrev pub roles_in : People → List ℕ → Option (List (List ℕ))
roles_in p who = get bytes_eq p.map who

-- the roles that are known of this person, where one is known
abbrev pub known_roles : Holdings → List ℕ → Option (List (List ℕ))
known_roles known who = map.get (state_of known).persons who

-- the same but for this person, who has these roles or isn't kept
abbrev pub SetsRoles : People → People → List ℕ → Option (List (List ℕ)) → Type 0
SetsRoles old new name roles = (who : List ℕ) → roles_in new who ≡ cond (bytes_eq name who) roles (roles_in old who)

-- What was kept as it is known is so still, and so is what is kept of each of these.
pub record Asks (known : Holdings) (old new : People) (names : List (List ℕ)) : Type 0 where
  pub right : (who : List ℕ) → (roles_in old who ≡ known_roles known who) ⊎ IsIn names who → roles_in new who ≡ known_roles known who

-- the person whose roles the event changes
abbrev pub person_of : Event → Option (List ℕ)
person_of (events.Person name roles) = Some name
person_of e = None
