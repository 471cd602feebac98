-- What stands after a crash, by the fill of the written ranges that no sync has followed.
use Rattle.std.specs.Prelude.{ℕ, ◌/◌, List, [], ◌∷◌, length, take, replicate, Bool, true, false, if◌then◌else◌, nat_le}
use Rattle.yw_outside.specs.declared.desk.File.{File}
use Rattle.yw_outside.specs.declared.desk.File.TheVariants.{A, B}
use Rattle.yw_outside.specs.declared.image.Fill.{Fill}
use Rattle.yw_outside.specs.declared.image.Fill.TheVariants.{Old, New, Half, Byte}
use Rattle.yw_outside.specs.declared.image.Image.{Image}
use Rattle.yw_outside.specs.declared.log.Call.{Call}
use Rattle.yw_outside.specs.declared.log.Call.TheVariants.{Look, Write, Sync, Say}
use Rattle.yw_outside.specs.Image.{file_in, overwritten}
use Rattle.yw_outside.specs.Log.{state_of}

abbrev pub is_same : File → File → Bool
is_same A A = true
is_same A B = false
is_same B A = false
is_same B B = true

-- the call is a sync of this file
abbrev pub is_sync : File → Call → Bool
is_sync f Look = false
is_sync f (Write g at bytes done) = false
is_sync f (Sync g) = is_same f g
is_sync f (Say bytes) = false

-- what stands in the place of the bytes of a write, from their first on
abbrev pub front_of : Fill → List ℕ → Bool → List ℕ
front_of Old bytes done = []
front_of New bytes done = if done then bytes else []
front_of Half bytes done = take (length bytes / 2) bytes
front_of (Byte b) bytes done = replicate (length bytes) b

-- where it begins within what stands already
abbrev pub stamped : List ℕ → ℕ → List ℕ → List ℕ
stamped left at prefix = if nat_le at (length left) then overwritten left at prefix else left

-- what stands of a file after these calls
abbrev pub standing : File → Fill → Image → List Call → List ℕ
standing f fill base [] = file_in f base
standing f fill base (Look ∷ older) = standing f fill base older
standing f fill base (Write g at bytes done ∷ older) = if is_same f g then stamped (standing f fill base older) at (front_of fill bytes done) else standing f fill base older
standing f fill base (Sync g ∷ older) = if is_same f g then file_in f (state_of base older) else standing f fill base older
standing f fill base (Say bytes ∷ older) = standing f fill base older

-- what a read of the file gave at its last sync, or at first
abbrev pub at_sync : File → Image → List Call → List ℕ
at_sync f base [] = file_in f base
at_sync f base (Look ∷ older) = at_sync f base older
at_sync f base (Write g at bytes done ∷ older) = at_sync f base older
at_sync f base (Sync g ∷ older) = if is_same f g then file_in f (state_of base older) else at_sync f base older
at_sync f base (Say bytes ∷ older) = at_sync f base older

-- of both files, with what was said
abbrev pub image_by : Fill → Image → List Call → Image
image_by fill base calls = record { a = standing A fill base calls; b = standing B fill base calls; said = (state_of base calls).said }
