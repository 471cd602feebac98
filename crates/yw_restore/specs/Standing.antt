-- The states for which stands what is kept, and what is written of it.
use Rattle.std.specs.Prelude.{◌≡◌, ◌++◌, ℕ, List, [], filter_map}
use Rattle.yw_journal.specs.Records.{IsFramedState}
use Rattle.yw_library.specs.Ended.{ended_of}
use Rattle.yw_library.specs.Held.{IsHeld}
use Rattle.yw_library.specs.declared.parts.Parts.{Parts}
use Rattle.yw_restore.specs.declared.kept.Kept.{Kept}
use Rattle.yw_state.specs.Map.{entries}
use Rattle.yw_state.specs.State.{State}
use Rattle.yw_states.specs.States.{IsState, tree_row}
use Rattle.yw_texts.specs.Texts.{reader}

-- The state is well, and this is what is kept of it: persons, specifications and cases, the number that is drawn next, how cases ended, and
-- the rows of its rule trees.
pub record IsOf (kept : Kept) (s : State) : Type 0 where
  pub held : IsHeld kept.known.now kept.forest.now s
  pub next : s.next ≡ kept.next
  pub ended : s.ended ≡ ended_of kept.ended.now
  pub trees : filter_map tree_row (entries s.rules) ≡ kept.trees.now

-- the parts of which an engine is made
abbrev pub parts_of : Kept → Parts
parts_of kept = record { library = kept.known.now; forest = kept.forest.now; next = kept.next; ended = kept.ended.now }

-- Nobody is known, no specification is loaded, and no number is drawn.
pub record HasNothing (kept : Kept) : Type 0 where
  pub next : kept.next ≡ 1
  pub persons : kept.known.now.persons ≡ []
  pub specs : kept.known.now.specs ≡ []

-- Behind what stood there stand the bytes of each state of which this is kept.
abbrev pub WritesState : Kept → List ℕ → List ℕ → Type 0
WritesState kept old new = (s : State) → IsOf kept s → (bytes : List ℕ) × (new ≡ old ++ bytes) × IsState reader s bytes

-- These are the bytes of each state of which this is kept, as a journal is made with them.
abbrev pub IsFramedOf : Kept → List ℕ → Type 0
IsFramedOf kept framed = (s : State) → IsOf kept s → (bytes : List ℕ) × IsFramedState framed bytes × IsState reader s bytes
