-- What a desk in memory stands for that keeps its calls.
use Rattle.std.specs.Prelude.{◌≡◌, ◌⊎◌, ◌==◌, ℕ, Bool, List, [], ◌∷◌, ◌++◌}
use Rattle.std.specs.List.{list_any}
use Rattle.yw_outside.specs.declared.desk.File.{File}
use Rattle.yw_outside.specs.declared.image.Fill.{Fill}
use Rattle.yw_outside.specs.declared.image.Image.{Image}
use Rattle.yw_outside.specs.declared.log.Call.{Call}
use Rattle.yw_outside.specs.declared.log.Made.{Made}
use Rattle.yw_outside.specs.declared.mem_desk.MemDesk.{MemDesk}
use Rattle.yw_outside.specs.Counts.{one_more}
use Rattle.yw_outside.specs.Disk as disk
use Rattle.yw_outside.specs.Fills.{image_by, at_sync}
use Rattle.yw_outside.specs.Log.{state_of, MayLeave}

-- its files at first
abbrev pub first_of : MemDesk → Image
first_of d = disk.first_of d.disk

-- its calls with their numbers, the oldest first
abbrev pub log_of : MemDesk → List Made
log_of d = disk.log_of d.disk

-- its calls, the newest first
abbrev pub calls_of : MemDesk → List Call
calls_of d = disk.calls_of d.disk

-- what reads give, and the output
abbrev pub reads_as : MemDesk → Image
reads_as d = disk.reads_as d.disk

-- what reads gave, and the output, just after so many calls
abbrev pub read_as_after : MemDesk → ℕ → Image
read_as_after d call = state_of (first_of d) (disk.calls_up_to d.disk call)

-- what a crash now may leave
abbrev pub may_leave_of : MemDesk → Image → Type 0
may_leave_of d = disk.may_leave_of d.disk

-- what a crash just after so many calls might have left
abbrev pub might_leave_after : MemDesk → ℕ → Image → Type 0
might_leave_after d call = MayLeave (first_of d) (disk.calls_up_to d.disk call)

-- what stands just after so many calls, by a fill
abbrev pub image_after : MemDesk → ℕ → Fill → Image
image_after d call fill = image_by fill (first_of d) (disk.calls_up_to d.disk call)

-- what a read of the file gave at its last sync among so many calls, or at first
abbrev pub synced_after : MemDesk → ℕ → File → List ℕ
synced_after d call f = at_sync f (first_of d) (disk.calls_up_to d.disk call)

-- how many calls it kept
abbrev pub moment_of : MemDesk → ℕ
moment_of d = disk.moment_of d.disk

abbrev pub left_since_of : MemDesk → ℕ → Image → Type 0
left_since_of d = disk.left_since_of d.disk

abbrev pub disk_faults_of : MemDesk → ℕ
disk_faults_of d = d.disk_faults

abbrev pub say_faults_of : MemDesk → ℕ
say_faults_of d = d.say_faults

-- how many calls there were
abbrev pub made_by : MemDesk → ℕ
made_by d = d.disk.made

-- the numbers, from 1, of the calls that fail
abbrev pub failing_calls : MemDesk → List ℕ
failing_calls d = d.fail.items

-- the next call's number is among them
abbrev pub is_told : MemDesk → Bool
is_told d = list_any (λ n. n == one_more (made_by d)) (failing_calls d)

-- how many calls failed for want of memory
abbrev pub short_of : MemDesk → ℕ
short_of d = d.short

-- one call more, which may be kept
pub record GoesOn (old new : MemDesk) : Type 0 where
  pub made : made_by new ≡ one_more (made_by old)
  pub first : first_of new ≡ first_of old
  pub failing : failing_calls new ≡ failing_calls old
  pub log : (log_of new ≡ log_of old) ⊎ ((m : Made) × (m.number ≡ made_by new) × (log_of new ≡ log_of old ++ m ∷ []))
