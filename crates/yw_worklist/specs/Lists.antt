-- The tables of the work lists, and what they say of a state. Our own.
use Rattle.std.specs.BTreeMap as tree
use Rattle.std.specs.BTreeMap.{BTreeMap}
use Rattle.std.specs.Prelude.{◌≡◌, ◌⊎◌, ◌||◌, ℕ, [], Bool, cond, false, is_some, List, None, Option, true, unwrap_or}
use Rattle.yw_library.specs.Holdings.{Holdings}
use Rattle.yw_open.specs.Opens.{AreOpens, IsHeldUnchosen}
use Rattle.yw_state.proofs.Entries.{IsIn}
use Rattle.yw_state.specs.Identity.{Ident}
use Rattle.yw_base.specs.Identity.{case_number}
use Rattle.yw_state.specs.Map.{get, lexical}
use Rattle.yw_state.specs.State.{Site, State, is_suspended}
use Rattle.yw_state.specs.Well.{Stands}
use Rattle.yw_tree.specs.declared.Forest.{Forest}
use Rattle.yw_work.specs.Holds.{has_run}
use Rattle.yw_work.specs.declared.open.By.{By}
use Rattle.yw_work.specs.declared.open.Open.{Open}
use Rattle.yw_worklist.specs.Fronts.{SetsFront, has_front}
use Rattle.yw_worklist.specs.Offers.{has_by, is_here, is_offered}
use Rattle.yw_worklist.specs.People.{roles_in}
use Rattle.yw_worklist.specs.declared.lists.Lists.{Lists}
use Rattle.yw_worklist.specs.declared.lists.Seen.{Seen}

-- ---- what is listed at an identity

abbrev pub Places : Type 0
Places = BTreeMap Ident (List Open)

abbrev pub opens_at : Places → Ident → List Open
opens_at p j = unwrap_or (tree.get lexical p j) []

abbrev pub has_place : Places → Ident → Bool
has_place p j = is_some (tree.get lexical p j)

abbrev pub works_at : Lists → Ident → List Open
works_at l j = opens_at l.places j

abbrev pub is_placed : Lists → Ident → Bool
is_placed l j = has_place l.places j

abbrev pub is_marked : Lists → Ident → Bool
is_marked l j = has_front l.marks j

abbrev pub is_run : Lists → Ident → Bool
is_run l j = has_front l.runs j

abbrev pub roles_at : Lists → List ℕ → Option (List (List ℕ))
roles_at l who = roles_in l.people who

-- ---- what it says of a state

-- Exactly what is open at j is listed there, in order of the tasks' names. It is marked where it is suspended, and a run stands there. Where it is
-- marked, or a run stands, it has a place.
pub record IsRightAt (s : State) (l : Lists) (j : Ident) : Type 0 where
  pub opens : AreOpens s j (works_at l j)
  pub mark : is_marked l j ≡ is_suspended s j
  pub run : is_run l j ≡ has_run s j
  pub kept : (is_marked l j || is_run l j) ≡ true → is_placed l j ≡ true

-- at each identity there is work for exactly those for whom something is listed
abbrev pub ArePooled : Lists → Type 0
ArePooled l = (by : By) (j : Ident) → is_offered l.offers by j ≡ has_by by (works_at l j)

-- All that is open is listed, and no more, with what is suspended, where runs stand, and the persons with their roles.
pub record IsListed (s : State) (l : Lists) : Type 0 where
  pub at : (j : Ident) → IsRightAt s l j
  pub pooled : ArePooled l
  pub people : (who : List ℕ) → roles_at l who ≡ get s.persons who

-- Nobody is known, and nothing is listed.
pub record IsBlank (l : Lists) : Type 0 where
  pub works : (j : Ident) → tree.get lexical l.places j ≡ None
  pub marks : (j : Ident) → is_marked l j ≡ false
  pub runs : (j : Ident) → is_run l j ≡ false
  pub offers : (by : By) (j : Ident) → is_offered l.offers by j ≡ false
  pub people : (who : List ℕ) → roles_at l who ≡ None

-- ---- changes

-- These are open at the identity, and elsewhere what was. What has a place elsewhere keeps it, and the identity has one where it must.
pub record PutsPlace (old new : Places) (id : Ident) (opens : List Open) (must : Bool) : Type 0 where
  pub works : (j : Ident) → opens_at new j ≡ cond (is_here id j) opens (opens_at old j)
  pub kept : (j : Ident) → is_here id j ≡ false → has_place old j ≡ true → has_place new j ≡ true
  pub here : must ≡ true → has_place new id ≡ true

-- So it is with all that is seen at the identity.
pub record PutsSeen (old new : Lists) (id : Ident) (seen : Seen) : Type 0 where
  pub places : PutsPlace old.places new.places id seen.opens (seen.suspended || seen.run)
  pub marks : SetsFront old.marks new.marks id seen.suspended
  pub runs : SetsFront old.runs new.runs id seen.run
  pub pooled : ArePooled old → ArePooled new
  pub people : new.people ≡ old.people

-- This is what is open at j, whether it is suspended, and whether a run stands there.
pub record IsSeen (s : State) (j : Ident) (seen : Seen) : Type 0 where
  pub opens : AreOpens s j seen.opens
  pub mark : seen.suspended ≡ is_suspended s j
  pub run : seen.run ≡ has_run s j

-- In each state that what is known and the forest stand for: what was right is so still, and what is listed at each of these is right.
pub record Looks (known : Holdings) (f : Forest) (old new : Lists) (At : State → Ident → Type 0) : Type 0 where
  pub right : (s : State) (j : Ident) → IsHeldUnchosen known f s → IsRightAt s old j ⊎ At s j → IsRightAt s new j
  pub pooled : ArePooled old → ArePooled new
  pub people : new.people ≡ old.people

-- ---- cases

-- something stands there, in a case of one of these numbers
abbrev pub StandsIn : List ℕ → State → Ident → Type 0
StandsIn cases s j = (x : Site) × Stands s j x × IsIn cases (case_number j)

-- nothing stands in any other case
abbrev pub AreCases : State → List ℕ → Type 0
AreCases s cases = (j : Ident) (x : Site) → Stands s j x → IsIn cases (case_number j)
