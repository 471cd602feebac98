-- What our calls need of a desk, and what they keep.
use Rattle.std.specs.Prelude.{◌≡◌, ℕ, ◌+◌, ◌<◌, ◌≤◌, ◌^◌, List, ◌++◌, IsTrue, Result, Ok, Err}
use Rattle.yw_outside.specs.Moments.{IsSettled}
use Rattle.yw_journal.specs.Calls.{NonePending, StandsFor}
use Rattle.yw_journal.specs.Files.{Content}
use Rattle.yw_journal.specs.Journal.{IsReady, IsCurrent}
use Rattle.yw_journal.specs.declared.journal.Journal.{Journal}
use Rattle.yw_lines.specs.Lines.{whole_lines, all_lines}
use Rattle.yw_serve.specs.Session.{AnswersOn, GoesOn, IsAtByte, StopsWithin, state_of}
use Rattle.yw_serve.specs.declared.server.Stop.{Stop}
use Rattle.yw_serve.specs.declared.server.Stop.TheVariants as stops
use Rattle.yw_serve.specs.declared.session.Session.{Session}
use Rattle.yw_outside.specs.declared.desk.Desk.{Ghosts}

-- The journal stands for what the desk's files hold, where it tells them, and nothing is pending.
pub record Stands {D : Type 0} (g : Ghosts D) (journal : Journal) (desk : D) : Type 0 where
  pub ready : IsReady journal
  pub current : StandsFor g journal desk
  pub settled : NonePending g desk

-- It tells as it did, and no count of faults has fallen.
pub record KeepsCounts {D : Type 0} (g : Ghosts D) (old new : D) : Type 0 where
  pub telling : g.tells new ≡ g.tells old
  pub disk : g.disk_faults old ≤ g.disk_faults new
  pub say : g.say_faults old ≤ g.say_faults new

-- where the desk tells, and nothing was pending, nothing is
abbrev pub StaysSettled : {D : Type 0} → Ghosts D → D → D → Type 0
StaysSettled g old new = IsTrue (g.tells old) → IsSettled (g.state old) (g.may_leave old) → IsSettled (g.state new) (g.may_leave new)

-- The journal has its file and its limit, and the desk tells as it did.
pub record KeepsJournal {D : Type 0} (g : Ghosts D) (before now : Journal) (old new : D) : Type 0 where
  pub file : now.file ≡ before.file
  pub limit : now.limit ≡ before.limit
  pub counts : KeepsCounts g old new

-- the most bytes of an entry as it is appended: its length in four bytes, so many bytes, and a gate
abbrev pub longest_entry : ℕ
longest_entry = 2 ^ 32 + 4

-- where an entry had no room, the longest hasn't
abbrev pub LacksRoom : Stop → Journal → Type 0
LacksRoom stops.Disk journal = Unit {0}
LacksRoom stops.Write journal = Unit {0}
LacksRoom stops.Memory journal = Unit {0}
LacksRoom (stops.Full n) journal = journal.limit < journal.end + longest_entry

-- the journal's end moves on by no more than an entry may have
abbrev pub Grows : {T : Type 0} → Result T Stop → Journal → Journal → Type 0
Grows (Ok v) before now = now.end ≤ before.end + longest_entry
Grows (Err stop) before now = LacksRoom stop before

-- where the desk tells, for each content that the journal may stand for
abbrev pub ForContent : {D : Type 0} → Ghosts D → Journal → D → (Content → Type 0) → Type 0
ForContent g journal desk P = IsTrue (g.tells desk) → (c : Content) → IsCurrent journal c (g.state desk) → P c

-- and for each list of bytes taken that the session may stand after
abbrev pub ForTaken : {D : Type 0} → Ghosts D → Session → D → (Content → List ℕ → Type 0) → Type 0
ForTaken g session desk P =
    IsTrue (g.tells desk) → (c : Content) (taken : List ℕ) → IsCurrent session.server.journal c (g.state desk) → IsAtByte session taken → P c taken

-- it goes on over this piece of the input
abbrev pub TakesPiece : {D : Type 0} → Ghosts D → Session → Session → List ℕ → D → D → Type 0
TakesPiece g before now piece old new = ForTaken g before old (λ c taken. GoesOn g c before now taken piece old new)

-- or it stops at one of the lines that the piece ends
abbrev pub StopsInPiece : {D : Type 0} → Ghosts D → Stop → Session → List ℕ → D → D → Type 0
StopsInPiece g stop before piece old new =
    ForTaken g before old (λ c taken. StopsWithin g c stop before (whole_lines taken) (whole_lines (taken ++ piece)) old new)

-- at the end of the input what follows the last newline is answered, where anything does
abbrev pub TakesRest : {D : Type 0} → Ghosts D → Session → Session → D → D → Type 0
TakesRest g before now old new =
    ForTaken g before old (λ c taken. AnswersOn g c before (whole_lines taken) (all_lines taken) (state_of now) now.server.journal old new)

-- or it stops there
abbrev pub StopsInRest : {D : Type 0} → Ghosts D → Stop → Session → D → D → Type 0
StopsInRest g stop before old new =
    ForTaken g before old (λ c taken. StopsWithin g c stop before (whole_lines taken) (all_lines taken) old new)
