-- The parts of which an engine is made.
use Rattle.std.specs.Prelude.{◌≡◌, ℕ, List, []}
use Rattle.yw_library.specs.Ended.{ended_of}
use Rattle.yw_library.specs.Holdings.{nothing, with_holdings}
use Rattle.yw_library.specs.Names.{names_of}
use Rattle.yw_library.specs.declared.parts.Parts.{Parts}
use Rattle.yw_state.specs.Map.{empty}
use Rattle.yw_state.specs.State.{State, opening}
use Rattle.yw_tree.specs.Forest.{IsForest, sites_of}

-- The state that these parts stand for.
abbrev pub state_of : Parts → State
state_of p = with_holdings (record opening { next = p.next; sites = sites_of (names_of p.library) p.forest; ended = ended_of p.ended }) p.library

-- Nobody, no specification, no rule and no case, and the first number is the next.
pub record IsOpening (p : Parts) : Type 0 where
  pub library : p.library ≡ nothing
  pub boxed : IsForest p.forest
  pub sites : (names : ℕ → List ℕ) → sites_of names p.forest ≡ empty
  pub next : p.next ≡ 1
  pub ended : p.ended ≡ []
