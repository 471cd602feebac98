-- Sets of what was seen, and what trying one thing more beside it finds.
use Rattle.std.specs.Prelude.{◌≡◌, ℕ, ◌||◌, ◌++◌, List, [], ◌∷◌, Bool, true, not, Option, None, String}
use Rattle.std.specs.BTreeSet.{BTreeSet, contains_text}
use Rattle.std.specs.Str.{bytes_eq}
use Rattle.std.specs.declared.alloc.Global.{Global}
use Rattle.yw_accept.specs.declared.broken.Broken.{Broken}
use Rattle.yw_accept.specs.Names.{is_new}
use Rattle.yw_accept.specs.Nodes.{is_name_among}
use Rattle.yw_accept.specs.Order.{Check, InTurn}

abbrev pub NameSet : Type 0
NameSet = BTreeSet (String Global)

-- the set has these names and no others
pub record Knows (set : NameSet) (names : List (List ℕ)) : Type 0 where
  pub has : (name : List ℕ) → contains_text set name ≡ is_name_among names name

-- the name is added, where it isn't there
pub record Adds (old new : NameSet) (name : List ℕ) (added : Bool) : Type 0 where
  pub is_new : added ≡ not (contains_text old name)
  pub has : (other : List ℕ) → contains_text new other ≡ (contains_text old other || bytes_eq other name)

-- these names are added
pub record AddsAll (old new : NameSet) (more : List (List ℕ)) : Type 0 where
  pub knows : (names : List (List ℕ)) → Knows old names → Knows new (names ++ more)

-- whether the name may be used and wasn't seen before; then it is seen
pub record Notes (old new : NameSet) (name : List ℕ) (good : Bool) : Type 0 where
  pub is_new : (names : List (List ℕ)) → Knows old names → good ≡ is_new names name
  pub knows : (names : List (List ℕ)) → Knows old names → good ≡ true → Knows new (names ++ name ∷ [])

-- `Has` says that a set knows what was seen, and `check` tries one thing beside it
module _ {A : Type 0} (Has : NameSet → List A → Type 0) (check : List A → A → Check) where
  -- one is tried, and seen where nothing is at fault
  pub record Tries (old new : NameSet) (x : A) (found : Option Broken) : Type 0 where
    pub finds : (seen : List A) → Has old seen → check seen x found
    pub knows : (seen : List A) → Has old seen → found ≡ None → Has new (seen ++ x ∷ [])

  -- some are tried in turn, and seen where nothing is at fault
  pub record TriesAll (old new : NameSet) (xs : List A) (found : Option Broken) : Type 0 where
    pub finds : (seen : List A) → Has old seen → InTurn check seen xs found
    pub knows : (seen : List A) → Has old seen → found ≡ None → Has new (seen ++ xs)
