-- The set of what the tasks of a net may empty.
use Rattle.std.specs.Prelude.{◌≡◌, ℕ, List, [], ◌∷◌, ◌++◌, map, filter}
use Rattle.std.specs.BTreeSet.{contains_text}
use Rattle.yw_read.specs.declared.raw.RawFlow.{RawFlow}
use Rattle.yw_read.specs.declared.raw.RawNet.{RawNet}
use Rattle.yw_accept.specs.Names.{may_be_emptied}
use Rattle.yw_accept.specs.Nodes.{task_names, arrow, is_implicit}
use Rattle.yw_check_names.specs.Seen.{NameSet, Knows}

-- the implicit conditions of some flows of the net
abbrev pub implicit_of : RawNet → List RawFlow → List (List ℕ)
implicit_of net flows = map arrow (filter (is_implicit net) flows)

-- behind flows whose implicit conditions a set has stands this one
pub record AddsImplicit (tasks old new : NameSet) (flow : RawFlow) : Type 0 where
  pub knows : (net : RawNet) (flows : List RawFlow) → Knows tasks (task_names net.task) → Knows old (implicit_of net flows) → Knows new (implicit_of net (flows ++ flow ∷ []))

-- the set has the implicit conditions of these flows, in a net with these tasks
pub record AreImplicit (tasks : NameSet) (flows : List RawFlow) (set : NameSet) : Type 0 where
  pub knows : (net : RawNet) → Knows tasks (task_names net.task) → Knows set (implicit_of net flows)

-- the set has what may be emptied, and nothing else
pub record MayBeEmptied (net : RawNet) (set : NameSet) : Type 0 where
  pub has : (name : List ℕ) → contains_text set name ≡ may_be_emptied net name
