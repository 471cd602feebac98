-- Walks along the flows of a graph whose nodes are numbers.
use Rattle.std.specs.Prelude.{ℕ, ◌<◌, List, Option, Some, None, Contains}
use Rattle.yw_reach.specs.declared.flow.Flow.{Flow}
use Rattle.yw_reach.specs.Walks.{WalkAlong, PathAlong, CycleAlong, IsBehindAlong}

-- a flow goes from a to b
abbrev pub HasFlow : List Flow → ℕ → ℕ → Type 0
HasFlow flows a b = Contains flows (record { from = a; to = b })

-- n flows, one behind the other, go from a to b
abbrev pub Walk : List Flow → ℕ → ℕ → ℕ → Type 0
Walk flows a b n = WalkAlong (HasFlow flows) a b n

-- flows go from a to b, or they are the same node
abbrev pub Path : List Flow → ℕ → ℕ → Type 0
Path flows a b = PathAlong (HasFlow flows) a b

-- one flow or more goes from a node to itself
abbrev pub Cycle : List Flow → Type 0
Cycle flows = CycleAlong (HasFlow flows)

-- k flows or more go from a to b
abbrev pub IsBehind : List Flow → ℕ → ℕ → ℕ → Type 0
IsBehind flows a b k = IsBehindAlong (HasFlow flows) a b k

-- both ends of a flow are nodes, of which there are `count`
abbrev pub IsWithin : ℕ → Flow → Type 0
IsWithin count flow = (flow.from < count) × (flow.to < count)

-- the flow the other way round
abbrev pub turned : Flow → Flow
turned flow = record { from = flow.to; to = flow.from }

-- a node is on a path from input to output
abbrev pub IsOnPath : List Flow → ℕ → ℕ → ℕ → Type 0
IsOnPath flows input output node = Path flows input node × Path flows node output

-- it is the first of the nodes, in order of numbers, that isn't on a path from input to output; None where each is
abbrev pub IsFirstOffPath : ℕ → List Flow → ℕ → ℕ → Option ℕ → Type 0
IsFirstOffPath count flows input output None = (k : ℕ) → k < count → IsOnPath flows input output k
IsFirstOffPath count flows input output (Some node) =
    (node < count)
    × ((k : ℕ) → k < node → IsOnPath flows input output k)
    × ¬ (IsOnPath flows input output node)
