-- What is kept of where something may come of itself, and what it says of a state. Our own.
use Rattle.std.specs.BTreeSet.{contains}
use Rattle.std.specs.List.{All}
use Rattle.std.specs.Ordering.{nat_cmp}
use Rattle.std.specs.Prelude.{◌≡◌, ◌≢◌, ◌==◌, ◌&&◌, ◌||◌, ℕ, Bool, List, length, false, true}
use Rattle.yw_base.specs.Identity.{is_identity, case_number}
use Rattle.yw_idents.specs.Idents.{AreAllIn}
use Rattle.yw_loose.specs.Counts.{AreRight}
use Rattle.yw_loose.specs.declared.loose.Loose.{Loose}
use Rattle.yw_state.specs.Identity.{Ident, same}
use Rattle.yw_state.specs.Map.{lexical}
use Rattle.yw_state.specs.State.{Site, State}
use Rattle.yw_state.specs.Well.{Stands}
use Rattle.yw_tree.specs.Forest.{IsForest, sites_of}
use Rattle.yw_tree.specs.declared.Forest.{Forest}
use Rattle.yw_walk.specs.Finds.{Rests}

-- it is known where something may come of itself in case n
abbrev pub is_known : Loose → ℕ → Bool
is_known l n = contains nat_cmp l.known n

-- something may come of itself at j
abbrev pub is_loose : Loose → Ident → Bool
is_loose l j = contains lexical l.idents j

-- case n is known, and nothing is loose
abbrev pub is_at_rest : Loose → ℕ → Bool
is_at_rest l n = length l.idents.keys == 0 && is_known l n

-- In each case that is known, what isn't loose is idle, or work is held there. The counts are right.
pub record IsRested (s : State) (l : Loose) : Type 0 where
  pub rests : (j : Ident) (x : Site) → Stands s j x → is_known l (case_number j) ≡ true → is_loose l j ≡ false → Rests s j
  pub counted : AreRight s l.counts

-- ---- more is loose, and the counts are the same

-- The same cases are known, and the same identities are loose.
pub record IsSame (old new : Loose) : Type 0 where
  pub known : (n : ℕ) → is_known new n ≡ is_known old n
  pub loose : (j : Ident) → is_loose new j ≡ is_loose old j
  pub counts : new.counts ≡ old.counts

-- The same cases are known, and this identity is loose too.
pub record Gains (old new : Loose) (id : Ident) : Type 0 where
  pub known : (n : ℕ) → is_known new n ≡ is_known old n
  pub loose : (j : Ident) → is_loose new j ≡ (same j id || is_loose old j)
  pub counts : new.counts ≡ old.counts

-- The same cases are known. What was loose is so still, and these identities are.
pub record HasAll (old new : Loose) (js : List Ident) : Type 0 where
  pub known : (n : ℕ) → is_known new n ≡ is_known old n
  pub was : (j : Ident) → is_loose old j ≡ true → is_loose new j ≡ true
  pub all : All (λ j. is_loose new j ≡ true) js
  pub counts : new.counts ≡ old.counts

-- No case is known that wasn't. Wherever its case is known, an identity is loose if it was or passes the test.
pub record Loosens (old new : Loose) (also : Ident → Bool) : Type 0 where
  pub known : (n : ℕ) → is_known new n ≡ true → is_known old n ≡ true
  pub was : (j : Ident) → is_known new (case_number j) ≡ true → is_loose old j ≡ true → is_loose new j ≡ true
  pub passing : (j : Ident) → is_identity j ≡ true → is_known new (case_number j) ≡ true → also j ≡ true → is_loose new j ≡ true
  pub counts : new.counts ≡ old.counts

-- The same cases are known. What was loose is so still, and so is all that stands in case n, wherever this is the forest.
pub record HasCase (old new : Loose) (f : Forest) (n : ℕ) : Type 0 where
  pub has : (names : ℕ → List ℕ) (s : State) → IsForest f → s.sites ≡ sites_of names f → (js : List Ident) × AreAllIn s n js × HasAll old new js

-- ---- less is known

-- Of this case nothing is known any more; of each other as much as before. The counts are the same.
pub record Forgets (old new : Loose) (n : ℕ) : Type 0 where
  pub gone : is_known new n ≡ false
  pub known : (m : ℕ) → is_known new m ≡ true → is_known old m ≡ true
  pub others : (m : ℕ) → m ≢ n → is_known new m ≡ is_known old m
  pub idents : new.idents ≡ old.idents
  pub counts : new.counts ≡ old.counts
