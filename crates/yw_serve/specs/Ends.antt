-- How a run over an input ends: what was taken of it, which lines are answered, and what a crash at each moment leaves.
-- The source had `bytes`, has `left` now, and its last read gave `piece` bytes. At most `limit` bytes are answered, and no entry that is taken
-- ends past `full_at`. The desk was `old` when the files had been opened with content c and state s, and is `new`.
use Rattle.std.specs.Prelude.{◌≡◌, ◌==◌, ◌+◌, ◌-◌, ◌<◌, ◌≤◌, ℕ, List, [], ◌∷◌, ◌++◌, length, take, drop, Bool, true, false, Option, Some}
use Rattle.yw_outside.specs.Since.{LeavesOnly}
use Rattle.yw_journal.specs.Files.{Content}
use Rattle.yw_journal.specs.declared.journal.Journal.{Journal}
use Rattle.yw_lines.specs.Lines.{whole_lines, lines}
use Rattle.yw_state.specs.State.{State}
use Rattle.yw_model.specs.Run.{Step, Run, HasRun}
use Rattle.yw_serve.specs.Session.{with_steps, OfSteps, AreDone, Why}
use Rattle.yw_serve.specs.declared.run.Ending.{Ending}
use Rattle.yw_serve.specs.declared.run.Ending.TheVariants.{Whole, Unread, Past, Stopped}
use Rattle.yw_serve.specs.declared.server.Stop.{Stop}
use Rattle.yw_outside.specs.declared.desk.Desk.{Ghosts}

-- These bytes were taken of all, and the rest is left.
pub record Takes (bytes taken rest : List ℕ) (left : Option (List ℕ)) : Type 0 where
  pub split : bytes ≡ taken ++ rest
  pub still : left ≡ Some rest

-- nothing is left, and the last read said so
abbrev pub has_ended : List ℕ → ℕ → Bool
has_ended [] piece = piece == 0
has_ended (b ∷ bs) piece = false

-- the bytes that were taken before the last piece
abbrev pub before_piece : List ℕ → ℕ → List ℕ
before_piece taken piece = take (length taken - piece) taken

-- The lines are answered by a run from state s on, and the files hold its entries, of which none passes `full_at`.
pub record AllAnswered {D : Type 0} (g : Ghosts D)
    (c : Content) (s : State) (full_at : ℕ) (lines : List (List ℕ)) (old new : D) : Type 0 where
  pub steps : List Step
  pub reached : State
  pub run : Run s 1 lines steps reached
  pub journal : Journal
  pub limited : journal.limit ≡ full_at
  pub are_done : AreDone g c steps journal old new

-- Of the lines at least the sure ones are answered, and the run stopped at the next.
pub record SomeAnswered {D : Type 0} (g : Ghosts D)
    (c : Content) (s : State) (full_at : ℕ) (stop : Stop) (sure all : List (List ℕ)) (old new : D) : Type 0 where
  pub extra : List (List ℕ)
  -- the line at work, or none where nothing was found out of it
  pub next : List (List ℕ)
  pub one : length next ≤ 1
  pub later : List (List ℕ)
  pub split : all ≡ (sure ++ extra) ++ (next ++ later)
  pub steps : List Step
  pub reached : State
  pub run : Run s 1 (sure ++ extra) steps reached
  pub mid : D
  pub journal : Journal
  pub are_done : AreDone g c steps journal old mid
  -- what comes of the line at work
  pub work : List Step
  pub after : State
  pub run_on : Run reached (1 + length (sure ++ extra)) next work after
  -- and something comes of the further lines
  pub goes_on : HasRun after (1 + length (sure ++ extra) + length next) later
  pub moments : LeavesOnly g mid new (OfSteps journal.file (with_steps c steps) work (g.state mid))
  pub why : Why g (with_steps c steps) stop journal work mid new
  pub limited : journal.limit ≡ full_at

-- All is taken and answered.
pub record EndsWhole {D : Type 0} (g : Ghosts D)
    (c : Content) (s : State) (full_at limit : ℕ) (bytes : List ℕ) (left : Option (List ℕ)) (old new : D) : Type 0 where
  pub within : length bytes ≤ limit
  pub takes : Takes bytes bytes [] left
  pub answered : AllAnswered g c s full_at (lines bytes true) old new

-- The lines that ended within the bytes taken are answered.
pub record EndsBetween {D : Type 0} (g : Ghosts D)
    (c : Content) (s : State) (full_at limit : ℕ) (bytes : List ℕ) (left : Option (List ℕ)) (old new : D) : Type 0 where
  pub taken : List ℕ
  pub rest : List ℕ
  pub takes : Takes bytes taken rest left
  pub within : length taken ≤ limit
  pub answered : AllAnswered g c s full_at (lines taken false) old new

-- One byte more came than the limit allows, and the lines that ended within it are answered.
pub record EndsPast {D : Type 0} (g : Ghosts D)
    (c : Content) (s : State) (full_at limit : ℕ) (bytes : List ℕ) (left : Option (List ℕ)) (old new : D) : Type 0 where
  pub past : limit < length bytes
  pub takes : Takes bytes (take (limit + 1) bytes) (drop (limit + 1) bytes) left
  pub answered : AllAnswered g c s full_at (lines (take limit bytes) false) old new

-- The lines that ended before the last piece are answered, and of the further lines of the bytes taken some.
pub record EndsShort {D : Type 0} (g : Ghosts D)
    (c : Content) (s : State) (full_at limit : ℕ) (stop : Stop) (bytes : List ℕ) (left : Option (List ℕ)) (piece : ℕ) (old new : D) : Type 0 where
  pub taken : List ℕ
  pub rest : List ℕ
  pub takes : Takes bytes taken rest left
  pub within : length taken ≤ limit + 1
  pub answered : SomeAnswered g c s full_at stop (whole_lines (before_piece taken piece)) (lines taken (has_ended rest piece)) old new

-- what each ending says
abbrev pub EndsAs : {D : Type 0} → Ghosts D
    → Ending → Content → State → ℕ → ℕ → List ℕ → Option (List ℕ) → ℕ → D → D → Type 0
EndsAs g Whole c s full_at limit bytes left piece = EndsWhole g c s full_at limit bytes left
EndsAs g Unread c s full_at limit bytes left piece = EndsBetween g c s full_at limit bytes left
EndsAs g Past c s full_at limit bytes left piece = EndsPast g c s full_at limit bytes left
EndsAs g (Stopped stop) c s full_at limit bytes left piece = EndsShort g c s full_at limit stop bytes left piece
