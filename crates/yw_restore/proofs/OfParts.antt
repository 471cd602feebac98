-- What is kept of the state for which parts stand.
use Rattle.std.proofs.Common.{◌≡◌, refl}
use Rattle.std.specs.Prelude.{filter_map}
use Rattle.yw_library.specs.Held.{IsHeld}
use Rattle.yw_library.specs.Holdings.{with_library}
use Rattle.yw_library.specs.Parts.{state_of}
use Rattle.yw_restore.specs.Standing.{IsOf, parts_of}
use Rattle.yw_restore.specs.declared.kept.Kept.{Kept}
use Rattle.yw_state.specs.Map.{entries}
use Rattle.yw_states.specs.States.{tree_row}
use Rattle.yw_trees.specs.Placed.{rules_of}

pub kept_parts : (kept : Kept) → IsHeld kept.known.now kept.forest.now (state_of (parts_of kept))
    → filter_map tree_row (entries (rules_of kept.known.now.rules)) ≡ kept.trees.now
    → IsOf kept (state_of (parts_of kept))
unfolding with_library
kept_parts kept held rows = record { held = held; next = refl; ended = refl; trees = rows }
