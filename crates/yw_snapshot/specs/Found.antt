-- What is found where the files are opened and the records of the chosen one are read, whatever they mean.
use Rattle.std.specs.Prelude.{◌≡◌, ◌++◌, ◌∷◌, [], ℕ, List, Some, Ok, drop}
use Rattle.yw_outside.specs.Image.{file_in}
use Rattle.yw_outside.specs.declared.desk.File.{File}
use Rattle.yw_outside.specs.declared.image.Image.{Image}
use Rattle.yw_journal.specs.Files.{Content, Meaning, HoldState, IsDamaged, Reaches, SnapshotIsNone, choice, count_of, generation_of, number_of, snapshot_of}
use Rattle.yw_journal.specs.Journal.{IsCurrent}
use Rattle.yw_journal.specs.declared.journal.Journal.{Journal}
use Rattle.yw_snapshot.specs.Compacting.{compacted}
use Rattle.yw_snapshot.specs.Opening.{LeftAfterSyncs, ShowsDamage, StaysOrBegins}
use Rattle.yw_snapshot.specs.Pair.{HoldCounted}
use Rattle.yw_snapshot.specs.Reading.{IsClosedHere, IsCutHere, IsRead, IsRecordHere}

-- The file is chosen. Up to the gate at this offset stand these records, which lead to this state behind its snapshot.
pub record IsReached {S : Type 0} (m : Meaning S) (i : Image) (f : File) (at : ℕ) (records : List (List ℕ)) (s : S) : Type 0 where
  pub chosen : choice i ≡ Ok (Some f)
  pub read : IsRead (file_in f i) at records
  pub meant : Reaches m (snapshot_of (file_in f i)) records s

-- what a file has, with these records
abbrev pub content_of : List ℕ → List (List ℕ) → Content
content_of file records = record { generation = generation_of file; count = count_of file; snapshot = snapshot_of file; records = records }

-- one record more, in its turn
abbrev pub ReachesOn : {S : Type 0} → Meaning S → Type 0
ReachesOn {S} m = (snapshot : List ℕ) (records : List (List ℕ)) (s : S) (bytes : List ℕ) (t : S) → Reaches m snapshot records s → m.After s bytes t
    → Reaches m snapshot (records ++ bytes ∷ []) t

-- a closed gate: this state is held
abbrev pub ClosedHolds : {S : Type 0} → Meaning S → Type 0
ClosedHolds {S} m = (i : Image) (f : File) (at : ℕ) (records : List (List ℕ)) (s : S) → IsReached m i f at records s
    → IsClosedHere (drop at (file_in f i)) → HoldState m (content_of (file_in f i) records) s i

-- a gate that is missing, or whose record passes the end: it is the first damage
abbrev pub CutDamages : {S : Type 0} → Meaning S → Type 0
CutDamages {S} m = (i : Image) (f : File) (at : ℕ) (records : List (List ℕ)) (s : S) → IsReached m i f at records s
    → IsCutHere (drop at (file_in f i)) → IsDamaged m i f at

-- a record that leads nowhere: its gate is the first damage
abbrev pub NowhereDamages : {S : Type 0} → Meaning S → Type 0
NowhereDamages {S} m = (i : Image) (f : File) (at : ℕ) (records : List (List ℕ)) (s : S) (bytes : List ℕ) → IsReached m i f at records s
    → IsRecordHere (drop at (file_in f i)) bytes → ((t : S) → m.After s bytes t → ⊥) → IsDamaged m i f at

-- what the headers and the length of the snapshot show is the first damage
abbrev pub ShownDamages : {S : Type 0} → Meaning S → Type 0
ShownDamages m = (i : Image) (f : File) (place : ℕ) → ShowsDamage i f place → IsDamaged m i f place

-- a snapshot that is no state's: its offset is the first damage
abbrev pub SnapshotDamages : {S : Type 0} → Meaning S → Type 0
SnapshotDamages m = (i : Image) (f : File) → choice i ≡ Ok (Some f) → SnapshotIsNone m (file_in f i) → IsDamaged m i f 29

-- the state that is held is held all through an opening, with the same number
abbrev pub OpeningKeeps : {S : Type 0} → Meaning S → Type 0
OpeningKeeps {S} m = (c : Content) (s : S) (i k : Image) → HoldState m c s i → LeftAfterSyncs i k → HoldCounted m s (number_of c) k

-- and behind it
abbrev pub OpenedHolds : {S : Type 0} → Meaning S → Type 0
OpenedHolds {S} m = (c : Content) (s : S) (i j : Image) → HoldState m c s i → StaysOrBegins i j → HoldCounted m s (number_of c) j

-- behind a compaction whose snapshot opens the state that was held, the files hold it in the new file, with the same number
abbrev pub CompactedHolds : {S : Type 0} → Meaning S → Type 0
CompactedHolds {S} m = (j : Journal) (c : Content) (snapshot : List ℕ) (s : S) (i : Image) → IsCurrent j (compacted c snapshot) i → m.Opens snapshot s
    → HoldState m (compacted c snapshot) s i × (number_of (compacted c snapshot) ≡ number_of c)
