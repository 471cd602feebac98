-- What the two files hold.
use Rattle.std.specs.Prelude.{◌≡◌, ◌⊎◌, ◌==◌, ◌&&◌, ℕ, ◌+◌, ◌≤◌, ◌<◌, ◌^◌, List, [], ◌∷◌, ◌++◌, length, take, drop, slice_index, Bool, false, if◌then◌else◌, nat_le, nat_lt, Option, None, Some, Result, Ok, Err}
use Rattle.std.specs.Int.{w64, from_be_bytes}
use Rattle.std.specs.Str.{bytes_eq}
use Rattle.yw_outside.specs.declared.desk.File.{File}
use Rattle.yw_outside.specs.declared.desk.File.TheVariants.{A, B}
use Rattle.yw_outside.specs.declared.image.Image.{Image}
use Rattle.yw_outside.specs.Image.{file_in, other_in}
use Rattle.yw_journal.specs.Records.{IsFrame, AreOpen, IsAt, IsCutAt}

-- `YWJ1`
abbrev pub magic : List ℕ
magic = 89 ∷ 87 ∷ 74 ∷ 49 ∷ []

-- the greatest generation, and the greatest number of entries after a snapshot's
abbrev pub greatest : ℕ
greatest = 2 ^ 62

-- the number in the eight bytes at this offset
abbrev pub u64_at : ℕ → List ℕ → ℕ
u64_at offset file = from_be_bytes w64 (take 8 (drop offset file))

abbrev pub magic_of : List ℕ → List ℕ
magic_of file = take 4 (drop 1 file)

abbrev pub generation_of : List ℕ → ℕ
generation_of file = u64_at 5 file

abbrev pub count_of : List ℕ → ℕ
count_of file = u64_at 13 file

abbrev pub snapshot_size_of : List ℕ → ℕ
snapshot_size_of file = u64_at 21 file

-- at least 30 bytes, the first of which is an open gate
abbrev pub is_live : List ℕ → Bool
is_live file = nat_le 30 (length file) && slice_index file 0 == 1

-- a live file's first damage that the header shows by itself
abbrev pub header_damage : List ℕ → Option ℕ
header_damage file =
    if is_live file then
    if bytes_eq (magic_of file) magic then
    if nat_le 1 (generation_of file) && nat_le (generation_of file) greatest then
    if nat_le (count_of file) greatest then None else Some 13
    else Some 5
    else Some 1
    else None

-- of two files whose headers are sound, the live one of higher generation, or none where none is live
abbrev pub higher : List ℕ → List ℕ → Result (Option File) (File × ℕ)
higher a b =
    if is_live a then
    if is_live b then
    if generation_of a == generation_of b then Err (B, 5)
    else if nat_lt (generation_of b) (generation_of a) then Ok (Some A) else Ok (Some B)
    else Ok (Some A)
    else if is_live b then Ok (Some B) else Ok None

abbrev pub higher_unless : Option ℕ → Option ℕ → List ℕ → List ℕ → Result (Option File) (File × ℕ)
higher_unless (Some place) fault_b a b = Err (A, place)
higher_unless None (Some place) a b = Err (B, place)
higher_unless None None a b = higher a b

-- the chosen file, none where none is live, or the first damage of the headers with its place
abbrev pub choice : Image → Result (Option File) (File × ℕ)
choice i = higher_unless (header_damage i.a) (header_damage i.b) i.a i.b

-- What stands after the header: the gate, the snapshot, and up to it all that a record is appended to.
pub record Content : Type 0 where
  pub generation : ℕ
  pub count : ℕ
  pub snapshot : List ℕ
  pub records : List (List ℕ)

-- the file up to the gate that follows its snapshot
pub record IsHead (generation count : ℕ) (snapshot head : List ℕ) : Type 0 where
  pub generation_field : List ℕ
  pub count_field : List ℕ
  pub size_field : List ℕ
  pub split : head ≡ 1 ∷ magic ++ generation_field ++ count_field ++ size_field ++ snapshot
  pub generation_eight : length generation_field ≡ 8
  pub count_eight : length count_field ≡ 8
  pub size_eight : length size_field ≡ 8
  pub generation_is : from_be_bytes w64 generation_field ≡ generation
  pub count_is : from_be_bytes w64 count_field ≡ count
  pub size_is : from_be_bytes w64 size_field ≡ length snapshot
  pub generation_some : 1 ≤ generation
  pub generation_small : generation ≤ greatest
  pub count_small : count ≤ greatest

-- the file has this content, and its records end with a closed gate, which ends at this offset
abbrev pub FileHas : List ℕ → Content → ℕ → Type 0
FileHas file c end = (head : List ℕ) × IsHead c.generation c.count c.snapshot head × IsAt head c.records end file

-- the file isn't live, or its header is sound and its generation is lower
abbrev pub IsLesser : ℕ → List ℕ → Type 0
IsLesser generation file = (is_live file ≡ false) ⊎ ((header_damage file ≡ None) × (generation_of file < generation))

-- this file is the live one of higher generation, with this content
pub record Holds (f : File) (c : Content) (end : ℕ) (i : Image) : Type 0 where
  pub file : FileHas (file_in f i) c end
  pub other : IsLesser c.generation (other_in f i)

-- no file is live
pub record NoneIsLive (i : Image) : Type 0 where
  pub a : is_live i.a ≡ false
  pub b : is_live i.b ≡ false

-- the opening state and no entry
abbrev pub opening : Content
opening = record { generation = 0; count = 0; snapshot = []; records = [] }

-- what both files hold
abbrev pub HasContent : Content → Image → Type 0
HasContent c i = (NoneIsLive i × (c ≡ opening)) ⊎ ((f : File) × (end : ℕ) × Holds f c end i)

-- the number of entries held
abbrev pub number_of : Content → ℕ
number_of c = c.count + length c.records

-- how many bytes these records take, each with the gate before it and its length
abbrev pub records_size : List (List ℕ) → ℕ
records_size [] = 0
records_size (r ∷ rs) = 5 + length r + records_size rs

-- the offset at which the closed gate after the records ends, and how long a file with this content is at least
abbrev pub end_of : Content → ℕ
end_of c = 30 + length c.snapshot + records_size c.records

-- The meaning of a snapshot's and of an entry's bytes: the state of a snapshot, where it is one, and the state
-- after an entry, where its bytes are one and each event of it is allowed in its turn.
pub record Meaning (S : Type 0) : Type 1 where
  pub Opens : List ℕ → S → Type 0
  pub After : S → List ℕ → S → Type 0

-- these entries lead from the one state to the other, each with its meaning in its turn
abbrev pub LeadsTo : {S : Type 0} → Meaning S → S → List (List ℕ) → S → Type 0
LeadsTo m s [] t = t ≡ s
LeadsTo {S} m s (r ∷ rs) t = (mid : S) × m.After s r mid × LeadsTo m mid rs t

-- a snapshot and entries after it lead to this state
abbrev pub Reaches : {S : Type 0} → Meaning S → List ℕ → List (List ℕ) → S → Type 0
Reaches {S} m snapshot records s = (start : S) × m.Opens snapshot start × LeadsTo m start records s

-- both files hold this state, after this content
pub record HoldState {S : Type 0} (m : Meaning S) (c : Content) (s : S) (i : Image) : Type 0 where
  pub content : HasContent c i
  pub state : Reaches m c.snapshot c.records s

-- up to the gate that follows the snapshot
abbrev pub head_of : List ℕ → List ℕ
head_of file = take (29 + snapshot_size_of file) file

abbrev pub snapshot_of : List ℕ → List ℕ
snapshot_of file = take (snapshot_size_of file) (drop 29 file)

-- The first damage after a sound header, with its place: the snapshot passes the end, or it isn't a
-- state's bytes; or at one gate after another the gate is missing, or it is open and its record passes the
-- end or has no meaning in its turn.
pub record SnapshotIsCut (file : List ℕ) : Type 0 where
  pub passes : length file < 29 + snapshot_size_of file

pub record SnapshotIsNone {S : Type 0} (m : Meaning S) (file : List ℕ) : Type 0 where
  pub ends : 29 + snapshot_size_of file ≤ length file
  pub none : (s : S) → m.Opens (snapshot_of file) s → ⊥

pub record IsCut {S : Type 0} (m : Meaning S) (file : List ℕ) (place : ℕ) : Type 0 where
  pub records : List (List ℕ)
  pub ends : 29 + snapshot_size_of file ≤ length file
  pub state : S
  pub meant : Reaches m (snapshot_of file) records state
  pub cut : IsCutAt (head_of file) records place file

pub record HasNoMeaning {S : Type 0} (m : Meaning S) (file : List ℕ) (place : ℕ) : Type 0 where
  pub records : List (List ℕ)
  pub ends : 29 + snapshot_size_of file ≤ length file
  pub state : S
  pub meant : Reaches m (snapshot_of file) records state
  pub opened : List ℕ
  pub frame : List ℕ
  pub bytes : List ℕ
  pub behind : List ℕ
  pub split : file ≡ (head_of file ++ opened) ++ 1 ∷ frame ++ behind
  pub are_open : AreOpen opened records
  pub is_frame : IsFrame frame bytes
  pub none : (t : S) → m.After state bytes t → ⊥
  pub at : length (head_of file ++ opened) ≡ place

abbrev pub DamagedBehind : {S : Type 0} → Meaning S → List ℕ → ℕ → Type 0
DamagedBehind m file place =
    (SnapshotIsCut file × (place ≡ 21)) ⊎ (SnapshotIsNone m file × (place ≡ 29)) ⊎ IsCut m file place ⊎ HasNoMeaning m file place

-- the files hold no state: the first damage, with its file and place
abbrev pub IsDamaged : {S : Type 0} → Meaning S → Image → File → ℕ → Type 0
IsDamaged m i f place = (choice i ≡ Err (f, place)) ⊎ ((choice i ≡ Ok (Some f)) × DamagedBehind m (file_in f i) place)
