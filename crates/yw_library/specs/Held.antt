-- The state that what is known and a forest stand for.
use Rattle.std.specs.Prelude.{◌≡◌}
use Rattle.yw_library.specs.Names.{names_of}
use Rattle.yw_library.specs.Holdings.{Holdings, with_library}
use Rattle.yw_texts.specs.Texts.{reader}
use Rattle.yw_state.specs.State.{State}
use Rattle.yw_state.specs.Well.{IsWell}
use Rattle.yw_tree.specs.Forest.{IsForest, sites_of}
use Rattle.yw_tree.specs.declared.Forest.{Forest}
use Rattle.yw_trees.specs.Placed.{rules_of}

-- The state is well. Its specifications, persons and rules are those that are known, and its cases stand in the forest. Its counter and the
-- cases that are over may be any.
pub record IsHeld (known : Holdings) (f : Forest) (s : State) : Type 0 where
  pub library : s ≡ with_library s known
  pub rules : s.rules ≡ rules_of known.rules
  pub boxed : IsForest f
  pub sites : s.sites ≡ sites_of (names_of known) f
  pub well : IsWell reader s
