-- What a look at what is loose finds. Our own.
use Rattle.std.specs.Prelude.{ℕ, MatchOption, Option}
use Rattle.yw_library.specs.Held.{IsHeld}
use Rattle.yw_library.specs.Holdings.{Holdings}
use Rattle.yw_loose.specs.Counts.{AreRight}
use Rattle.yw_loose.specs.Loose.{IsRested}
use Rattle.yw_loose.specs.declared.counts.Counts.{Counts}
use Rattle.yw_loose.specs.declared.loose.Loose.{Loose}
use Rattle.yw_state.specs.Automatic.{IsQuiet}
use Rattle.yw_state.specs.Identity.{Ident}
use Rattle.yw_base.specs.Identity.{case_number}
use Rattle.yw_state.specs.State.{State}
use Rattle.yw_tree.specs.declared.Forest.{Forest}
use Rattle.yw_walk.specs.Finds.{IsFound, Rests, StandsCalm}
use Rattle.yw_walk.specs.declared.found.Found.{Found}

-- what was rested in the state for which these stand, is rested
abbrev pub StaysRested : Holdings → Forest → ℕ → ℕ → Loose → Loose → Type 0
StaysRested known f n next old new = (s : State) → StandsCalm known f next n s → IsRested s old → IsRested s new

-- wherever the counts are right, this event comes of itself in the case of j, or nothing does at j
abbrev pub FindsCounted : Holdings → Forest → Ident → ℕ → Counts → Option Found → Type 0
FindsCounted known f j next counts found =
    (s : State) → StandsCalm known f next (case_number j) s → AreRight s counts → MatchOption found (Rests s j) (IsFound s (case_number j))

-- counts that were right in the state for which these stand, are right
abbrev pub StaysRight : Holdings → Forest → Counts → Counts → Type 0
StaysRight known f old new = (s : State) → IsHeld known f s → AreRight s old → AreRight s new

-- this event comes of itself in case n, or the case is quiet
abbrev pub FindsLoose : Holdings → Forest → ℕ → ℕ → Loose → Option Found → Type 0
FindsLoose known f n next old found =
    (s : State) → StandsCalm known f next n s → IsRested s old → MatchOption found (IsQuiet s n) (IsFound s n)
