-- What is found of the trees of a library.
use Rattle.std.specs.Prelude.{◌≡◌, List, Option}
use Rattle.yw_library.specs.Holdings.{Holdings, with_holdings}
use Rattle.yw_rdr.specs.Rules.{Kept}
use Rattle.yw_state.specs.Judged.{rules_at}
use Rattle.yw_state.specs.State.{State}
use Rattle.yw_state.specs.declared.tree.TreePlace.{TreePlace}
use Rattle.yw_trees.specs.Placed.{linked}

-- whatever else the state has, these are the links of the rules at the place, or there are none
abbrev pub AreLinks : Holdings → TreePlace → Option (List Kept) → Type 0
AreLinks known p found = (s : State) → found ≡ linked (rules_at (with_holdings s known) p)
