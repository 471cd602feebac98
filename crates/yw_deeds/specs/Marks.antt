-- Whether a case or an item is suspended, by the forest.
use Rattle.std.specs.Prelude.{Bool, None, Option, Some, option_and_then}
use Rattle.yw_state.specs.Identity.{Ident}
use Rattle.yw_tree.specs.Spots.{Part, a_case, a_run, an_item, part_at}
use Rattle.yw_tree.specs.declared.Forest.{Forest}
use Rattle.yw_tree.specs.declared.Node.{out-Node}

-- of a run nothing is said
abbrev pub mark_of : Part → Option Bool
mark_of (a_case c) = Some c.suspended
mark_of (an_item n) = Some (out-Node n).suspended
mark_of (a_run r) = None

-- of what stands at j
abbrev pub mark_at : Forest → Ident → Option Bool
mark_at f j = option_and_then mark_of (part_at f j)
