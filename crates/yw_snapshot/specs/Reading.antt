-- Records that are read one after another, behind a snapshot of any length in either file.
use Rattle.std.specs.Prelude.{◌≡◌, ◌≢◌, ◌⊎◌, ℕ, ◌+◌, ◌-◌, ◌≤◌, ◌<◌, ◌^◌, List, [], ◌∷◌, ◌++◌, length, take, drop, true, false, Bool, Option, None, Some, IsTrue, Ok}
use Rattle.std.specs.Int.{w32, from_be_bytes}
use Rattle.yw_outside.specs.Image.{file_in}
use Rattle.yw_outside.specs.declared.desk.Desk.{Ghosts}
use Rattle.yw_outside.specs.declared.desk.File.{File}
use Rattle.yw_outside.specs.declared.image.Image.{Image}
use Rattle.yw_journal.specs.Files.{choice, count_of, generation_of, greatest, head_of, snapshot_size_of}
use Rattle.yw_journal.specs.declared.journal.Journal.{Journal}
use Rattle.yw_journal.specs.Records.{AreOpen, IsFrame, IsNoRecord}
use Rattle.yw_snapshot.specs.Window.{Covers, IsRoomy, Shows, part_of}
use Rattle.yw_snapshot.specs.declared.gate.GateByte.{GateByte}
use Rattle.yw_snapshot.specs.declared.gate.GateByte.TheVariants.{Closed, Open, Cut}
use Rattle.yw_snapshot.specs.declared.opening.Opening.{Opening}

-- the gate is missing, or it is open and its record passes the end
abbrev pub IsCutHere : List ℕ → Type 0
IsCutHere rest = (rest ≡ []) ⊎ ((after : List ℕ) × (rest ≡ 1 ∷ after) × IsNoRecord rest)

abbrev pub IsClosedHere : List ℕ → Type 0
IsClosedHere rest = (gate : ℕ) × (after : List ℕ) × (rest ≡ gate ∷ after) × (gate ≢ 1)

-- an open gate, and a whole record of so many bytes after it
pub record IsOpenHere (size : ℕ) (rest : List ℕ) : Type 0 where
  pub gate : take 1 rest ≡ 1 ∷ []
  pub within : 5 + size ≤ length rest
  pub value : from_be_bytes w32 (take 4 (drop 1 rest)) ≡ size

-- what these bytes begin with
abbrev pub StandsHere : List ℕ → GateByte → Type 0
StandsHere rest Closed = IsClosedHere rest
StandsHere rest (Open size) = IsOpenHere size rest
StandsHere rest Cut = IsCutHere rest

-- The bytes begin with an open gate and this record.
pub record IsRecordHere (rest bytes : List ℕ) : Type 0 where
  pub frame : List ℕ
  pub behind : List ℕ
  pub split : rest ≡ 1 ∷ frame ++ behind
  pub is_frame : IsFrame frame bytes

-- Behind the snapshot, up to the gate at this offset, stand these records.
pub record IsRead (file : List ℕ) (at : ℕ) (records : List (List ℕ)) : Type 0 where
  pub ends : 29 + snapshot_size_of file ≤ length file
  pub opened : List ℕ
  pub split : file ≡ (head_of file ++ opened) ++ drop at file
  pub are_open : AreOpen opened records
  pub place : length (head_of file ++ opened) ≡ at

-- the record that was read last
abbrev pub record_of : Opening → List ℕ
record_of o = part_of o.window (o.at - o.size) o.size

-- the record that was read last is among the bytes at hand
abbrev pub IsLastAtHand : Opening → Type 0
IsLastAtHand o = 1 ≤ o.size → (o.first + o.size ≤ o.at) × Covers o.window (o.at - o.size) o.size

-- The numbers of an opening, whatever the desk holds.
pub record IsInRange (o : Opening) : Type 0 where
  pub some : 29 ≤ o.first
  pub from : o.first ≤ o.at
  pub within : o.at ≤ o.len
  pub bound : o.len < 2 ^ 63
  pub few : o.count ≤ greatest
  pub counted : o.number ≤ o.count + (o.at - o.first)
  pub roomy : IsRoomy o.window
  pub last : IsLastAtHand o

-- It stands in the pair of files: its file is the live one of higher generation, whose header has its numbers, and behind the
-- snapshot, up to the gate that is read next, stand these records.
pub record StandsIn (o : Opening) (i : Image) (records : List (List ℕ)) : Type 0 where
  pub chosen : choice i ≡ Ok (Some o.file)
  pub size : o.len ≡ length (file_in o.file i)
  pub generation : o.generation ≡ generation_of (file_in o.file i)
  pub count : o.count ≡ count_of (file_in o.file i)
  pub first : o.first ≡ 29 + snapshot_size_of (file_in o.file i)
  pub read : IsRead (file_in o.file i) o.at records
  pub number : o.number ≡ o.count + length records
  pub window : Shows (file_in o.file i) o.window
  pub done : o.done ≡ true → IsClosedHere (drop o.at (file_in o.file i))

-- it stands in the desk's files, where the desk tells them
abbrev pub StandsOn : {D : Type 0} → Ghosts D → Opening → D → Type 0
StandsOn g o desk = IsTrue (g.tells desk) → (records : List (List ℕ)) × StandsIn o (g.state desk) records

-- It stands before the same gate of the same file.
pub record IsAtSameGate (before now : Opening) : Type 0 where
  pub at : now.at ≡ before.at
  pub number : now.number ≡ before.number
  pub gate : now.gate ≡ before.gate

-- What was read of the header is as it was.
pub record IsOfSameFile (before now : Opening) : Type 0 where
  pub file : now.file ≡ before.file
  pub generation : now.generation ≡ before.generation
  pub count : now.count ≡ before.count
  pub first : now.first ≡ before.first
  pub len : now.len ≡ before.len

-- The gate was open, and this record behind it is read.
pub record HasPassed (before now : Opening) (i : Image) (records : List (List ℕ)) (bytes : List ℕ) : Type 0 where
  pub here : IsRecordHere (drop before.at (file_in before.file i)) bytes
  pub stands : StandsIn now i (records ++ bytes ∷ [])

-- The gate is closed.
pub record HasEnded (before now : Opening) (i : Image) (records : List (List ℕ)) : Type 0 where
  pub closed : IsClosedHere (drop before.at (file_in before.file i))
  pub stands : StandsIn now i records

-- what is read of the desk's files at the next gate, where these records stand before it
abbrev pub ForRead : {D : Type 0} → Ghosts D → Opening → D → (Image → List (List ℕ) → Type 0) → Type 0
ForRead g o desk P = IsTrue (g.tells desk) → (records : List (List ℕ)) → StandsIn o (g.state desk) records → P (g.state desk) records

-- A record of so many bytes behind the next gate is at hand.
pub record HasAtHand (o : Opening) (size : ℕ) : Type 0 where
  pub within : o.at + 5 + size ≤ o.len
  pub covers : Covers o.window (o.at + 5) size

-- with the record of so many bytes behind the next gate read
abbrev pub passed : Opening → ℕ → Opening
passed o size = record o { gate = o.at; at = o.at + (5 + size); number = o.number + 1; size = size }

-- It stands where it stood, and no record is read.
pub record StaysAt (before now : Opening) : Type 0 where
  pub gate : IsAtSameGate before now
  pub file : IsOfSameFile before now
  pub size : now.size ≡ 0
  pub done : now.done ≡ false

-- the next gate is closed
abbrev pub FindsClosed : {D : Type 0} → Ghosts D → Opening → D → Type 0
FindsClosed g o desk = ForRead g o desk (λ i records. IsClosedHere (drop o.at (file_in o.file i)))

-- The next gate is open, and the record behind it is at hand.
pub record FindsOpen {D : Type 0} (g : Ghosts D) (before now : Opening) (desk : D) (size : ℕ) : Type 0 where
  pub at_hand : HasAtHand now size
  pub here : ForRead g before desk (λ i records. IsOpenHere size (drop before.at (file_in before.file i)))

-- one record more is read, or the gate is closed
abbrev pub ReadsOn : Opening → Opening → Bool → Image → List (List ℕ) → Type 0
ReadsOn before now true i records = HasPassed before now i records (record_of now)
ReadsOn before now false i records = HasEnded before now i records

-- the same, with a copy of the record
abbrev pub GivesNext : Opening → Opening → Option (List ℕ) → Image → List (List ℕ) → Type 0
GivesNext before now None i records = HasEnded before now i records
GivesNext before now (Some bytes) i records = HasPassed before now i records bytes

-- the journal that goes on at the gate that is read next
abbrev pub journal_of : Opening → ℕ → Journal
journal_of o limit = record { file = o.file; generation = o.generation; end = o.at + 1; limit = limit; number = o.number }

-- a gate that is missing, or whose record passes the end, is found there
abbrev pub FindsCut : {D : Type 0} → Ghosts D → Opening → D → File → ℕ → Type 0
FindsCut g o desk f place = (f ≡ o.file) × (place ≡ o.at) × (IsTrue (g.tells desk) → IsCutHere (drop place (file_in f (g.state desk))))
