-- What a window has of a file.
use Rattle.std.specs.Prelude.{◌≡◌, ◌≤◌, ℕ, ◌+◌, ◌-◌, List, length, take, drop}
use Rattle.yw_snapshot.specs.declared.window.Window.{Window}

-- its memory
abbrev pub room_of : Window → List ℕ
room_of window = window.bytes.items

-- It has room for a gate and a length, and for what it has.
pub record IsRoomy (window : Window) : Type 0 where
  pub some : 5 ≤ length (room_of window)
  pub fits : window.count ≤ length (room_of window)

-- so many bytes from this offset on are among those that it has
pub record Covers (window : Window) (at count : ℕ) : Type 0 where
  pub from : window.at ≤ at
  pub to : at + count ≤ window.at + window.count

-- what it has are these bytes of the file
abbrev pub Shows : List ℕ → Window → Type 0
Shows file window = take window.count (room_of window) ≡ take window.count (drop window.at file)

-- so many of its bytes from an offset of the file on
abbrev pub part_of : Window → ℕ → ℕ → List ℕ
part_of window at count = take count (drop (at - window.at) (room_of window))
