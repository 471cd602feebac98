-- A state whose cases stand in a forest, with what the laws need of its being well.
use Rattle.std.specs.Prelude.{◌≡◌, List, ℕ}
use Rattle.yw_state.specs.State.{State}
use Rattle.yw_state.specs.Well.{MarksStand, NetsStand, NumbersFit, ParentsStand}
use Rattle.yw_tree.specs.Forest.{IsForest, sites_of}
use Rattle.yw_tree.specs.declared.Forest.{Forest}

-- The state has the map of the forest. Its numbers are drawn, nets stand where one is wanted, items and runs stand at what they are of, and
-- checks and marks at cases and items.
pub record StandsAll (names : ℕ → List ℕ) (f : Forest) (s : State) : Type 0 where
  pub boxed : IsForest f
  pub sites : s.sites ≡ sites_of names f
  pub numbers : NumbersFit s
  pub nets : NetsStand s
  pub parents : ParentsStand s
  pub marks : MarksStand s
