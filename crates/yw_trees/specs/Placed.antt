-- The rules of trees, each with what has it and where it stands; and the rules of a state that they are. Our own.
use Rattle.std.specs.Prelude.{◌≡◌, ◌+◌, ◌==◌, ◌&&◌, ℕ, Bool, false, List, [], ◌∷◌, ◌++◌, map, length, suc, Option, Some, None, option_map, slice_get, if◌then◌else◌}
use Rattle.yw_rdr.specs.Rules.{Kept, kept_of}
use Rattle.yw_state.specs.Judged.{kind_number, place_key}
use Rattle.yw_state.specs.Map.{Map, lexical_each, of_entries}
use Rattle.yw_state.specs.RuleTree.{TreeRule}
use Rattle.yw_state.specs.declared.loaded.Loaded.{Loaded}
use Rattle.yw_state.specs.declared.tree.TreeKind.{TreeKind}
use Rattle.yw_state.specs.declared.tree.TreePlace.{TreePlace}
use Rattle.yw_trees.specs.Owners.{Owns, SpecsApart}
use Rattle.yw_trees.specs.declared.owner.Owner.{Owner}
use Rattle.yw_trees.specs.declared.owner.Owner.TheVariants.{Cases, Task}

-- A tree: what has it by numbers, where it stands by names, and its rules in the order of their numbers.
pub record Placed : Type 0 where
  pub owner : Owner
  pub place : TreePlace
  pub rules : List TreeRule

-- ---- by numbers

abbrev pub same_owner : Owner → Owner → Bool
same_owner (Cases a) (Cases b) = a == b
same_owner (Task a b c) (Task k n t) = a == k && (b == n && c == t)
same_owner a b = false

-- both are of one owner and of one kind
abbrev pub same_slot : Owner → TreeKind → Owner → TreeKind → Bool
same_slot a j b k = same_owner a b && kind_number j == kind_number k

-- it is the tree of this kind that it has
abbrev pub is_its : Owner → TreeKind → Placed → Bool
is_its owner kind t = same_slot t.owner t.place.kind owner kind

-- the number of that tree
abbrev pub number_for : Owner → TreeKind → List Placed → Option ℕ
number_for owner kind [] = None
number_for owner kind (t ∷ ts) = if is_its owner kind t then Some 0 else option_map suc (number_for owner kind ts)

-- the rules of that tree, and none where it has no tree
abbrev pub rules_for : Owner → TreeKind → List Placed → List TreeRule
rules_for owner kind [] = []
rules_for owner kind (t ∷ ts) = if is_its owner kind t then t.rules else rules_for owner kind ts

-- the same as links keep them
abbrev pub links_for : Owner → TreeKind → List Placed → List Kept
links_for owner kind trees = map kept_of (rules_for owner kind trees)

-- links of rules; nothing where there is no rule
abbrev pub linked : List TreeRule → Option (List Kept)
linked [] = None
linked (r ∷ rs) = Some (map kept_of (r ∷ rs))

-- ---- one rule more

abbrev pub more : Placed → TreeRule → Placed
more t r = record { owner = t.owner; place = t.place; rules = t.rules ++ r ∷ [] }

abbrev pub a_tree : Owner → TreePlace → TreeRule → Placed
a_tree owner p r = record { owner = owner; place = p; rules = r ∷ [] }

-- the rule behind those of its tree; or a new tree behind all others, where it has none
abbrev pub with_rule : Owner → TreePlace → TreeRule → List Placed → List Placed
with_rule owner p r [] = a_tree owner p r ∷ []
with_rule owner p r (t ∷ ts) = if is_its owner p.kind t then more t r ∷ ts else t ∷ with_rule owner p r ts

-- The rule has come, and it has this number in its tree.
pub record IsAdded (old new : List Placed) (owner : Owner) (p : TreePlace) (r : TreeRule) (number : ℕ) : Type 0 where
  pub added : new ≡ with_rule owner p r old
  pub numbered : number ≡ length (rules_for owner p.kind old) + 1

-- ---- by names

abbrev pub rules_under : Placed → List (List ℕ) × List TreeRule
rules_under t = (place_key t.place, t.rules)

-- the rules of a state: those of each tree at its place
abbrev pub rules_of : List Placed → Map lexical_each (List TreeRule)
rules_of trees = of_entries (map rules_under trees)

-- each tree stands at a place of what has it
abbrev pub AllOwned : List Loaded → List Placed → Type 0
AllOwned specs trees = (n : ℕ) (t : Placed) → slice_get trees n ≡ Some t → Owns specs t.owner t.place

-- And the specifications have different names.
pub record AreOwned (specs : List Loaded) (trees : List Placed) : Type 0 where
  pub apart : SpecsApart specs
  pub owned : AllOwned specs trees
