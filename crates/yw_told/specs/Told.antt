-- What the line of an accepted command tells of what was done. Our own.
use Rattle.std.specs.Prelude.{◌≡◌, ℕ, List, Bool}
use Rattle.yw_lines.specs.Replies.{done_line}
use Rattle.yw_state.specs.Legal.{IsLegal}
use Rattle.yw_state.specs.State.{State}
use Rattle.yw_state.specs.Texts.{Reader}
use Rattle.yw_state.specs.declared.command.Command.{Command}
use Rattle.yw_state.specs.declared.event.Event.{Event}

-- Two entries have the same events, the same flag and the same state after them.
pub record AreSame (es fs : List Event) (q p : Bool) (t u : State) : Type 0 where
  pub events : es ≡ fs
  pub quiet : q ≡ p
  pub state : t ≡ u

-- two entries that may answer one command in this state are the same where their lines are
abbrev pub LinesTellEntries : Reader → State → Type 0
LinesTellEntries reader s =
    (c : Command) (n : ℕ) (es fs : List Event) (q p : Bool) (t u : State)
    → IsLegal reader s c es q t → IsLegal reader s c fs p u → done_line n es q ≡ done_line n fs p → AreSame es fs q p t u
