-- A list for the items of a task, which a net gets where it has none, and room in it.
use Rattle.std.specs.Prelude.{◌≡◌, ◌+◌, ◌-◌, ◌++◌, ℕ, List, [], Vec, length, map}
use Rattle.std.specs.declared.alloc.Global.{Global}
use Rattle.yw_sites.specs.Idents.{Each}
use Rattle.yw_state.specs.Identity.{Ident}
use Rattle.yw_state.specs.Values.{Row}
use Rattle.yw_state.specs.declared.part.Checks.{Checks}
use Rattle.yw_task.specs.Items.{GetsItems}
use Rattle.yw_tree.specs.declared.NetState.{NetState, out-NetState}
use Rattle.yw_tree.specs.declared.Node.{Node}

-- lists without items
abbrev pub AreEmpty : List (Vec Node Global) → Type 0
AreEmpty = Each (λ (v : Vec Node Global). v.items ≡ [])

-- Behind the lists of old stand empty ones, as many as are wanted for one with number t.
pub record EmptyBehind (t : ℕ) (old new : List (Vec Node Global)) : Type 0 where
  pub more : List (Vec Node Global)
  pub all : new ≡ old ++ more
  pub empty : AreEmpty more
  pub number : length more ≡ t + 1 - length old

-- the items of each of these lists
abbrev pub rows_in : List (Vec Node Global) → List (List Node)
rows_in vs = map (λ (v : Vec Node Global). v.items) vs

-- Where old had no list with number t, empty ones came behind its own. Then each has the items that it had; of their room nothing is said.
pub record GetsRows (t : ℕ) (old new : List (Vec Node Global)) : Type 0 where
  pub made : List (Vec Node Global)
  pub behind : EmptyBehind t old made
  pub same : rows_in new ≡ rows_in made

-- The net has a list for task t: where it had none, empty ones came behind its own. Its own part and the items of each list that it had stay.
pub record GetsList (t : ℕ) (old new : NetState) : Type 0 where
  pub spec : (out-NetState new).spec ≡ (out-NetState old).spec
  pub net : (out-NetState new).net ≡ (out-NetState old).net
  pub marks : (out-NetState new).marks ≡ (out-NetState old).marks
  pub vals : (out-NetState new).vals ≡ (out-NetState old).vals
  pub lists : GetsRows t (out-NetState old).items.items (out-NetState new).items.items

-- Items come to the net at i (`GetsItems`), once it has a list for them.
pub record GetsListAndItems (i : Ident) (t : ℕ) (due : Checks) (first : ℕ) (rows : List Row) (old new : NetState) : Type 0 where
  pub roomy : NetState
  pub room : GetsList t old roomy
  pub items : GetsItems i t due first rows roomy new
