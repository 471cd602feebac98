-- What a journal stands for, and what its calls leave.
use Rattle.std.specs.Prelude.{◌≡◌, ◌⊎◌, ℕ, ◌+◌, ◌-◌, ◌≤◌, ◌<◌, ◌^◌, List, [], ◌∷◌, ◌++◌, take, true, false}
use Rattle.std.specs.Int.{w64, to_be_bytes}
use Rattle.yw_outside.specs.declared.desk.File.{File}
use Rattle.yw_outside.specs.declared.desk.File.TheVariants.{A, B}
use Rattle.yw_outside.specs.declared.image.Image.{Image}
use Rattle.yw_outside.specs.Image.{file_in, other_in, overwritten}
use Rattle.yw_journal.specs.declared.journal.Journal.{Journal}
use Rattle.yw_journal.specs.Files.{Content, Holds, HasContent, NoneIsLive, opening, number_of, generation_of, is_live, magic}

-- the numbers of a journal that can go on
pub record IsReady (j : Journal) : Type 0 where
  pub some : 30 ≤ j.end
  pub within : j.end ≤ 2 ^ 63
  pub limited : j.limit ≤ 2 ^ 62
  pub counted : j.number ≤ 2 ^ 62 + j.end

-- its file is the live one of higher generation, with this content, and its numbers are so
pub record IsCurrent (j : Journal) (c : Content) (i : Image) : Type 0 where
  pub holds : Holds j.file c j.end i
  pub generation : j.generation ≡ c.generation
  pub number : j.number ≡ number_of c

abbrev pub with_record : Content → List ℕ → Content
with_record c bytes = record { generation = c.generation; count = c.count; snapshot = c.snapshot; records = c.records ++ bytes ∷ [] }

-- a file whose records end at this offset, with a record's frame and a closed gate there, and the gate before them open; every other byte
-- is as it was
abbrev pub appended : List ℕ → ℕ → List ℕ → List ℕ
appended file end framed = overwritten (overwritten file end framed) (end - 1) (1 ∷ [])

-- the records from before, or these and the new one whole; nothing else is touched
pub record IsBeforeOrAfter (f : File) (c : Content) (bytes : List ℕ) (old image : Image) : Type 0 where
  pub holds : ((end : ℕ) × Holds f c end image) ⊎ ((end : ℕ) × Holds f (with_record c bytes) end image)
  pub other : other_in f image ≡ other_in f old
  pub said : image.said ≡ old.said

-- the content of a file just made
abbrev pub made : ℕ → ℕ → List ℕ → Content
made generation number snapshot = record { generation = generation; count = number; snapshot = snapshot; records = [] }

abbrev pub other_file : File → File
other_file A = B
other_file B = A

-- the files hold this content without this file: no file is live, or the other is the live one of higher generation
abbrev pub IsHeldBeside : File → Content → Image → Type 0
IsHeldBeside f c i = (NoneIsLive i × (c ≡ opening)) ⊎ ((end : ℕ) × Holds (other_file f) c end i)

-- the other file has a lower generation, where it is live
abbrev pub IsAboveOther : File → ℕ → Image → Type 0
IsAboveOther f generation i = is_live (other_in f i) ≡ true → generation_of (other_in f i) < generation

-- the content from before, or the new one whole; the other file and the output are not touched
pub record IsBeforeOrMade (f : File) (before new : Content) (old image : Image) : Type 0 where
  pub holds : HasContent before image ⊎ ((end : ℕ) × Holds f new end image)
  pub other : other_in f image ≡ other_in f old
  pub said : image.said ≡ old.said

-- the file is as it was, or it isn't live; nothing else is touched
pub record IsBeforeOrShut (f : File) (old image : Image) : Type 0 where
  pub file : (file_in f image ≡ file_in f old) ⊎ (is_live (file_in f image) ≡ false)
  pub other : other_in f image ≡ other_in f old
  pub said : image.said ≡ old.said

-- the file's first gate byte is as it was; nothing else is touched
pub record KeepsGateByte (f : File) (old image : Image) : Type 0 where
  pub gate : take 1 (file_in f image) ≡ take 1 (file_in f old)
  pub other : other_in f image ≡ other_in f old
  pub said : image.said ≡ old.said

-- after an open gate stand this header and what follows it
abbrev pub IsMadeOf : List ℕ → List ℕ → List ℕ → Type 0
IsMadeOf header framed file = (rest : List ℕ) × (file ≡ 1 ∷ header ++ framed ++ rest)

-- the file is as it was, or it isn't live, or it is made; nothing else is touched
pub record IsBeforeShutOrMade (f : File) (header framed : List ℕ) (old image : Image) : Type 0 where
  pub file : (file_in f image ≡ file_in f old) ⊎ (is_live (file_in f image) ≡ false) ⊎ IsMadeOf header framed (file_in f image)
  pub other : other_in f image ≡ other_in f old
  pub said : image.said ≡ old.said

-- magic, generation and number
abbrev pub header_bytes : ℕ → ℕ → List ℕ
header_bytes generation number = magic ++ to_be_bytes w64 generation ++ to_be_bytes w64 number
