-- Which tree is lent where something is urgent. Our own.
use Rattle.std.specs.Prelude.{◌≡◌, List, Option, true}
use Rattle.yw_deeds.specs.Judging.{IsTreeAt}
use Rattle.yw_rdr.specs.Rules.{Kept}
use Rattle.yw_state.specs.Allowed.{comes_next}
use Rattle.yw_state.specs.Identity.{Ident}
use Rattle.yw_state.specs.State.{State}
use Rattle.yw_state.specs.declared.tree.TreeKind.{TreeKind}
use Rattle.yw_urgent.specs.declared.here.Urgent.{Urgent}
use Rattle.yw_urgent.specs.declared.here.Urgent.TheVariants as urgents

-- that by which the check is judged; a run is judged by none
abbrev pub IsTreeOf : State → Ident → Urgent → Option (List Kept) → Type 0
IsTreeOf s j (urgents.Check check) tree = IsTreeAt s j check tree
IsTreeOf s j (urgents.Run run) tree = Unit {0}

-- that by which the check is judged that comes next at j, where one does
abbrev pub IsTreeNext : State → Ident → Option (List Kept) → Type 0
IsTreeNext s j tree = (check : TreeKind) → comes_next s j check ≡ true → IsTreeAt s j check tree
