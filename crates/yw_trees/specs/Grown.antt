-- Trees as they are kept, and the rules that they stand for.
use Rattle.std.specs.Prelude.{◌≡◌, ◌≤◌, ◌+◌, ℕ, Bool, List, [], map, zip, length, Option, Some, None, All, slice_get, slice_set}
use Rattle.yw_rdr.specs.Attached.{Takes}
use Rattle.yw_rdr.specs.Rules.{Kept, kept_of}
use Rattle.yw_state.specs.RuleTree.{TreeRule}
use Rattle.yw_state.specs.declared.tree.TreeKind.{TreeKind}
use Rattle.yw_state.specs.declared.tree.TreePlace.{TreePlace}
use Rattle.yw_trees.specs.Placed.{Placed, a_tree, more, number_for, rules_for}
use Rattle.yw_trees.specs.Slots.{slot_at}
use Rattle.yw_trees.specs.declared.grown.Grown.{Grown}
use Rattle.yw_trees.specs.declared.grown.NewRule.{NewRule}
use Rattle.yw_trees.specs.declared.owner.Owner.{Owner}
use Rattle.yw_trees.specs.declared.slots.Slots.{Slots}

abbrev pub rule_of : NewRule → TreeRule
rule_of r = record { at = r.at; side = r.side; when = r.when; test = r.test; conclusion = r.conclusion }

-- ---- one tree

-- a rule with the text of its condition
abbrev pub told : List ℕ × Kept → TreeRule
told e = record { at = e.1.at; side = e.1.side; when = e.0; test = e.1.test; conclusion = e.1.conclusion }

abbrev pub rules_in : Grown → List TreeRule
rules_in g = map told (zip g.texts g.tree)

abbrev pub placed : Grown → Placed
placed g = record { owner = g.owner; place = g.place; rules = rules_in g }

-- The tree has a rule, and each has its text.
pub record Agrees (g : Grown) : Type 0 where
  pub as_many : length g.texts ≡ length g.tree
  pub some : 1 ≤ length g.tree

-- The tree stands at the place and has this rule alone.
pub record IsFirst (owner : Owner) (p : TreePlace) (r : TreeRule) (g : Grown) : Type 0 where
  pub is : placed g ≡ a_tree owner p r
  pub agrees : Agrees g

-- The tree has one rule more, which has this number, and is else the same.
pub record IsMore (old new : Grown) (r : TreeRule) (number : ℕ) : Type 0 where
  pub is : placed new ≡ more (placed old) r
  pub agrees : Agrees new
  pub numbered : number ≡ length (rules_in old) + 1

-- ---- a list of trees

-- Each tree is found by what has it and by its kind, and agrees with itself.
pub record AreRight (grown : List Grown) (slots : Slots) : Type 0 where
  pub slotted : (owner : Owner) (kind : TreeKind) → slot_at slots owner kind ≡ number_for owner kind (map placed grown)
  pub agree : All Agrees grown

-- the rules of the tree of this kind that it has are those of the tree that is found, or there are none
abbrev pub HasRules : List Placed → Owner → TreeKind → Option Grown → Type 0
HasRules trees owner kind (Some g) = Agrees g × (rules_for owner kind trees ≡ rules_in g)
HasRules trees owner kind None = rules_for owner kind trees ≡ []

-- ---- one rule more in the tree with this number

-- the tree with this number takes a rule there
abbrev pub TakesIn : List Grown → ℕ → ℕ → Bool → Type 0
TakesIn grown n at side = (g : Grown) → slice_get grown n ≡ Some g → Takes g.tree at side

abbrev pub TakesAt : List Placed → ℕ → ℕ → Bool → Type 0
TakesAt trees n at side = (t : Placed) → slice_get trees n ≡ Some t → Takes (map kept_of t.rules) at side

-- it has the rule, with this number
abbrev pub IsMoreIn : List Grown → List Grown → ℕ → TreeRule → ℕ → Type 0
IsMoreIn old new n r number = (g : Grown) → slice_get old n ≡ Some g → (h : Grown) × (new ≡ slice_set old n h) × IsMore g h r number

abbrev pub IsMoreAt : List Placed → List Placed → ℕ → TreeRule → ℕ → Type 0
IsMoreAt old new n r number = (t : Placed) → slice_get old n ≡ Some t → (new ≡ slice_set old n (more t r)) × (number ≡ length t.rules + 1)
