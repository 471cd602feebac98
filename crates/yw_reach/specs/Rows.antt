-- The flows by the nodes that they go from.
use Rattle.std.specs.Prelude.{◌≡◌, ℕ, ◌<◌, ◌==◌, List, [], ◌∷◌, length, get_or, if◌then◌else◌}
use Rattle.yw_reach.specs.declared.flow.Flow.{Flow}

-- where the flows from a node go, in order of the flows
abbrev pub targets : ℕ → List Flow → List ℕ
targets node [] = []
targets node (f ∷ fs) = if f.from == node then f.to ∷ targets node fs else targets node fs

-- there is a row for each node, which has the targets of the flows from it
pub record AreRows (count : ℕ) (flows : List Flow) (rows : List (List ℕ)) : Type 0 where
  pub len : length rows ≡ count
  pub row : (node : ℕ) → node < count → get_or rows node [] ≡ targets node flows
