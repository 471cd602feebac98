-- What a piece of memory has of a file.
use Rattle.std.specs.Prelude.{◌≡◌, ◌≤◌, ℕ, ◌+◌, List, Result, IsTrue, OnOk, length, take, drop}
use Rattle.yw_outside.specs.declared.desk.Desk.{Ghosts}
use Rattle.yw_serve.specs.declared.window.Window.{Window}

-- so many bytes from this offset on are among those that it has
pub record Covers (window : Window) (at count : ℕ) : Type 0 where
  pub from : window.at ≤ at
  pub to : at + count ≤ window.at + window.count

-- what the piece has at its front are these bytes of the file
abbrev pub Shows : List ℕ → List ℕ → Window → Type 0
Shows file piece window = take window.count piece ≡ take window.count (drop window.at file)

-- File A has so many bytes, and those that the window says are at the piece's front.
pub record IsAtHand {D : Type 0} (g : Ghosts D) (desk : D) (len : ℕ) (window : Window) (piece : List ℕ) : Type 0 where
  pub size : IsTrue (g.tells desk) → len ≡ length (g.state desk).a
  pub fits : window.count ≤ length piece
  pub shows : IsTrue (g.tells desk) → Shows (g.state desk).a piece window

-- What a call leaves at hand: what the piece has is told under Ok alone.
pub record LeavesAtHand {D T E : Type 0} (g : Ghosts D) (desk : D) (window : Window) (piece : List ℕ) (result : Result T E) : Type 0 where
  pub fits : window.count ≤ length piece
  pub shows : IsTrue (g.tells desk) → OnOk result (Shows (g.state desk).a piece window)
