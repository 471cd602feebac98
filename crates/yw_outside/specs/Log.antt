-- A desk as the list of its calls, the newest first.
use Rattle.std.specs.Prelude.{◌≡◌, ◌⊎◌, ℕ, ◌≤◌, List, [], ◌∷◌, ◌++◌, length, reverse, map, Bool, true, false, ◌&&◌, nat_le}
use Rattle.std.specs.List.{take_while}
use Rattle.yw_outside.specs.declared.desk.File.{File}
use Rattle.yw_outside.specs.declared.desk.File.TheVariants.{A, B}
use Rattle.yw_outside.specs.declared.image.Image.{Image}
use Rattle.yw_outside.specs.declared.log.Call.{Call}
use Rattle.yw_outside.specs.declared.log.Call.TheVariants.{Look, Write, Sync, Say}
use Rattle.yw_outside.specs.declared.log.Made.{Made}
use Rattle.yw_outside.specs.Image.{file_in, overwritten, Writes}
use Rattle.yw_outside.specs.Moments.{After}

abbrev pub with_file : File → List ℕ → Image → Image
with_file A bytes i = record { a = bytes; b = i.b; said = i.said }
with_file B bytes i = record { a = i.a; b = bytes; said = i.said }

-- what a call does to what is read; a write that failed does nothing
abbrev pub after_call : Call → Image → Image
after_call Look i = i
after_call (Write f at bytes true) i = with_file f (overwritten (file_in f i) at bytes) i
after_call (Write f at bytes false) i = i
after_call (Sync f) i = i
after_call (Say bytes) i = record { a = i.a; b = i.b; said = i.said ++ bytes }

abbrev pub state_of : Image → List Call → Image
state_of base [] = base
state_of base (call ∷ older) = after_call call (state_of base older)

-- what a call does to what a crash may leave; a write that failed may have been torn
abbrev pub Leaves : Call → Image → (Image → Type 0) → Image → Type 0
Leaves Look state old c = old c
Leaves (Write f at bytes done) state old c = After (Writes f at (length bytes)) old c
Leaves (Sync f) state old c = old c × (file_in f c ≡ file_in f state)
Leaves (Say bytes) state old c = (d : Image) × old d × (c ≡ after_call (Say bytes) d)

-- what a crash may leave just after these calls
abbrev pub MayLeave : Image → List Call → Image → Type 0
MayLeave base [] c = c ≡ base
MayLeave base (call ∷ older) c = Leaves call (state_of base older) (MayLeave base older) c

-- where each call stands whole at once
abbrev pub StandsWhole : Image → List Call → Image → Type 0
StandsWhole base calls c = c ≡ state_of base calls

-- at the moment after so many calls, or a later one
abbrev pub LeftSince : (List Call → Image → Type 0) → List Call → ℕ → Image → Type 0
LeftSince may [] t c = (t ≤ 0) × may [] c
LeftSince may (call ∷ older) t c = ((t ≤ length (call ∷ older)) × may (call ∷ older) c) ⊎ LeftSince may older t c

-- each write begins within its file
abbrev pub begins_within : Call → Image → Bool
begins_within Look i = true
begins_within (Write f at bytes done) i = nat_le at (length (file_in f i))
begins_within (Sync f) i = true
begins_within (Say bytes) i = true

abbrev pub are_placed : Image → List Call → Bool
are_placed base [] = true
are_placed base (call ∷ older) = begins_within call (state_of base older) && are_placed base older

-- the calls of a list that has the oldest first
abbrev pub calls_in : List Made → List Call
calls_in log = reverse (map (λ m. m.call) log)

-- those up to this number
abbrev pub up_to : ℕ → List Made → List Made
up_to number log = take_while (λ m. nat_le m.number number) log

-- no number is greater
abbrev pub are_numbered : ℕ → List Made → Bool
are_numbered most [] = true
are_numbered most (m ∷ log) = nat_le m.number most && are_numbered most log
