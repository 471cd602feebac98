-- What a compaction of the files does. The desk was `old` and is `new`.
use Rattle.std.specs.Prelude.{◌≡◌, ℕ, ◌+◌, List, nat_le, nat_lt, if◌then◌else◌, Option, None, Some, IsTrue, Result, Ok, Err}
use Rattle.yw_outside.specs.Causes.{Rose}
use Rattle.yw_outside.specs.declared.desk.Desk.{Ghosts}
use Rattle.yw_journal.specs.Files.{Content, greatest, number_of}
use Rattle.yw_journal.specs.Journal.{IsCurrent, made}
use Rattle.yw_journal.specs.Records.{IsFramedState}
use Rattle.yw_journal.specs.declared.journal.Journal.{Journal}
use Rattle.yw_snapshot.specs.declared.compaction.CompactFault.{CompactFault}
use Rattle.yw_snapshot.specs.declared.compaction.CompactFault.TheVariants.{Disk, Full, Damaged}

-- where the next generation or the number held would pass its bound: the place of the first that does
abbrev pub past_bounds : Journal → Option ℕ
past_bounds j = if nat_le greatest j.generation then Some 5 else if nat_lt greatest j.number then Some 13 else None

-- with this snapshot in place of a content's snapshot and records
abbrev pub compacted : Content → List ℕ → Content
compacted c snapshot = made (c.generation + 1) (number_of c) snapshot

-- for each content that the journal stands for and each snapshot that is handed in, where the desk tells what it holds
abbrev pub ForCompaction : {D : Type 0} → Ghosts D → Journal → List ℕ → D → (Content → List ℕ → Type 0) → Type 0
ForCompaction g j framed desk P =
    IsTrue (g.tells desk) → (c : Content) (snapshot : List ℕ) → IsCurrent j c (g.state desk) → IsFramedState framed snapshot → P c snapshot

-- how the count of the files' faults stands after each answer
abbrev pub CountsCompacting : {T : Type 0} → Result T CompactFault → ℕ → ℕ → Type 0
CountsCompacting (Ok v) before now = now ≡ before
CountsCompacting (Err Disk) before now = Rose before now
CountsCompacting (Err (Full n)) before now = now ≡ before
CountsCompacting (Err (Damaged f place)) before now = now ≡ before
