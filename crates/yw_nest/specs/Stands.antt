-- A state whose cases stand in a forest.
use Rattle.std.specs.Prelude.{◌≡◌, ℕ, List}
use Rattle.yw_state.specs.State.{State}
use Rattle.yw_state.specs.Well.{NetsStand, NumbersFit}
use Rattle.yw_tree.specs.Forest.{IsForest, sites_of}
use Rattle.yw_tree.specs.declared.Forest.{Forest}

-- The state has the map of the forest, and of what is so of each state that is well, what is needed here: its numbers are drawn, and its nets
-- stand where one is wanted.
pub record StandsWell (names : ℕ → List ℕ) (f : Forest) (s : State) : Type 0 where
  pub boxed : IsForest f
  pub sites : s.sites ≡ sites_of names f
  pub numbers : NumbersFit s
  pub nets : NetsStand s
