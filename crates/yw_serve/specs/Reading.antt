-- How far the reading of an input has come.
use Rattle.std.specs.Prelude.{◌≡◌, ◌+◌, ◌<◌, ◌≤◌, ℕ, List, length, take, Option}
use Rattle.yw_journal.specs.Files.{Content}
use Rattle.yw_lines.specs.Lines.{whole_lines}
use Rattle.yw_model.specs.Run.{Step, Run}
use Rattle.yw_state.specs.State.{State}
use Rattle.yw_serve.specs.declared.session.Session.{Session}
use Rattle.yw_serve.specs.Session.{state_of, IsAtByte, AreDone}
use Rattle.yw_serve.specs.Ends.{Takes}
use Rattle.yw_outside.specs.declared.desk.Desk.{Ghosts}

-- More bytes are taken, at most one past the limit, and the number of the next line is at most that of the next byte.
pub record IsFurther (limit before now number : ℕ) : Type 0 where
  pub more : before < now
  pub within : now ≤ limit + 1
  pub counted : number ≤ now + 1

-- The lines that ended within these bytes are answered, and what they have of the next is kept.
pub record HasAnswered {D : Type 0} (g : Ghosts D)
    (c : Content) (s : State) (session : Session) (taken : List ℕ) (old new : D) : Type 0 where
  pub steps : List Step
  pub run : Run s 1 (whole_lines taken) steps (state_of session)
  pub are_done : AreDone g c steps session.server.journal old new
  pub at : IsAtByte session taken
  pub number : session.number ≡ 1 + length (whole_lines taken)

-- Of all bytes so many were taken, and those within the limit are answered.
pub record HasRead {D : Type 0} (g : Ghosts D)
    (c : Content) (s : State) (session : Session) (limit count : ℕ) (bytes : List ℕ) (left : Option (List ℕ)) (old new : D) : Type 0 where
  pub taken : List ℕ
  pub rest : List ℕ
  pub takes : Takes bytes taken rest left
  pub counted : length taken ≡ count
  pub answered : HasAnswered g c s session (take limit taken) old new
