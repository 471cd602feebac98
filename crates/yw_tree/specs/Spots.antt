-- What is found at an identity.
use Rattle.std.specs.Prelude.{Option, Some, None, option_map, if◌then◌else◌, List, ℕ}
use Rattle.yw_state.specs.Identity.{Ident, is_case_ident}
use Rattle.yw_base.specs.Identity.{case_number}
use Rattle.yw_state.specs.State.{Site}
use Rattle.yw_tree.specs.Cases.{case_at}
use Rattle.yw_tree.specs.Entries.{case_site, item_site, run_site}
use Rattle.yw_tree.specs.Forest.{item_of}
use Rattle.yw_tree.specs.Places.{run_of}
use Rattle.yw_tree.specs.declared.Case.{Case}
use Rattle.yw_tree.specs.declared.Forest.{Forest}
use Rattle.yw_tree.specs.declared.Node.{Node}
use Rattle.yw_tree.specs.declared.Run.{Run}
use Rattle.yw_tree.specs.declared.find.Spot.{Spot}
use Rattle.yw_tree.specs.declared.find.Spot.TheVariants as spots

-- A case, an item or a run.
pub data Part : Type 0 where
  a_case : (c : Case) → Part
  an_item : (n : Node) → Part
  a_run : (r : Run) → Part

-- what is lent
abbrev pub part_of : Spot → Part
part_of (spots.Case c) = a_case c.now
part_of (spots.Item n) = an_item n.now
part_of (spots.Run r) = a_run r.now

abbrev pub item_or_run : Option Node → Option Run → Option Part
item_or_run None o = option_map a_run o
item_or_run (Some n) o = Some (an_item n)

-- what stands at the identity
abbrev pub part_at : Forest → Ident → Option Part
part_at f id = if is_case_ident id then option_map a_case (case_at (case_number id) f.cases) else item_or_run (item_of f id) (run_of f id)

-- what the map has of it; specifications have these names
abbrev pub part_site : (ℕ → List ℕ) → Part → Site
part_site names (a_case c) = case_site names c
part_site names (an_item n) = item_site names n
part_site names (a_run r) = run_site names r
