-- At which identities there is work, by whom it is for. Our own.
use Rattle.std.specs.BTreeSet.{BTreeSet, contains}
use Rattle.std.specs.List.{list_any}
use Rattle.std.specs.Ordering.{eq_by_cmp}
use Rattle.std.specs.Prelude.{◌≡◌, ℕ, ◌&&◌, ◌||◌, Bool, cond, false, List, not, true}
use Rattle.std.specs.Str.{bytes_eq}
use Rattle.yw_state.proofs.Entries.{IsIn}
use Rattle.yw_state.specs.Identity.{Ident}
use Rattle.yw_state.specs.Map.{lexical}
use Rattle.yw_work.specs.Open.{admits}
use Rattle.yw_work.specs.declared.open.By.{By}
use Rattle.yw_work.specs.declared.open.By.TheVariants as bys
use Rattle.yw_work.specs.declared.open.Open.{Open}
use Rattle.yw_worklist.specs.Pools.{is_in}
use Rattle.yw_worklist.specs.declared.offers.Offers.{Offers}

-- ---- whom work is for

abbrev pub same_by : By → By → Bool
same_by bys.Anyone bys.Anyone = true
same_by (bys.Role a) (bys.Role b) = bytes_eq a b
same_by (bys.Person a) (bys.Person b) = bytes_eq a b
same_by a b = false

-- some of these is for them
abbrev pub has_by : By → List Open → Bool
has_by by opens = list_any (λ o. same_by o.by by) opens

-- there is work at j for them
abbrev pub is_offered : Offers → By → Ident → Bool
is_offered o bys.Anyone j = contains lexical o.anyone j
is_offered o (bys.Role role) j = is_in bytes_eq o.roles.map role j
is_offered o (bys.Person name) j = is_in bytes_eq o.persons.map name j

-- ---- changes

-- j is this identity
abbrev pub is_here : Ident → Ident → Bool
is_here id j = eq_by_cmp lexical id j

-- the same set but for this identity, which is in it or isn't
abbrev pub SetsIn : BTreeSet Ident → BTreeSet Ident → Ident → Bool → Type 0
SetsIn old new id b = (j : Ident) → contains lexical new j ≡ cond (is_here id j) b (contains lexical old j)

-- the same but at this identity for these, where there is work or none
abbrev pub SetsOffer : Offers → Offers → By → Ident → Bool → Type 0
SetsOffer old new by id b =
    (c : By) (j : Ident) → is_offered new c j ≡ cond (same_by by c) (cond (is_here id j) b (is_offered old c j)) (is_offered old c j)

-- the same but at this identity, where for whom there is work is turned
abbrev pub Turns : Offers → Offers → Ident → (By → Bool → Bool) → Type 0
Turns old new id turn = (c : By) (j : Ident) → is_offered new c j ≡ cond (is_here id j) (turn c (is_offered old c j)) (is_offered old c j)

-- no longer for those for whom there was some of these before, and is none after
abbrev pub left : List Open → List Open → By → Bool → Bool
left before after c b = b && not (has_by c before && not (has_by c after))

-- for those too for whom there is some of these after, and was none before
abbrev pub came : List Open → List Open → By → Bool → Bool
came before after c b = b || (has_by c after && not (has_by c before))

-- ---- the identities where there is work for a person

-- What was there is there still, and so is each of these.
pub record Gains (old new : List Ident) (also : Ident → Type 0) : Type 0 where
  pub was : (j : Ident) → IsIn old j → IsIn new j
  pub all : (j : Ident) → also j → IsIn new j

-- where there is work for those of one of these names
abbrev pub is_in_some : Offers → List (List ℕ) → Ident → Bool
is_in_some o roles j = list_any (λ role. is_in bytes_eq o.roles.map role j) roles

-- each identity with work that is for a person of this name with these roles
abbrev pub HasAdmitted : Offers → List (List ℕ) → List ℕ → List Ident → Type 0
HasAdmitted o roles who ids = (by : By) (j : Ident) → admits roles who by ≡ true → is_offered o by j ≡ true → IsIn ids j
