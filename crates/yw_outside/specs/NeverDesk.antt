-- What a desk in memory stands for of which each write and each say stands whole at once.
use Rattle.std.specs.Prelude.{ℕ, List}
use Rattle.yw_outside.specs.declared.image.Image.{Image}
use Rattle.yw_outside.specs.declared.log.Call.{Call}
use Rattle.yw_outside.specs.declared.never_desk.NeverDesk.{NeverDesk}
use Rattle.yw_outside.specs.Disk as disk
use Rattle.yw_outside.specs.Log.{StandsWhole, LeftSince}

-- its files at first, which are empty
abbrev pub first_of : NeverDesk → Image
first_of d = disk.first_of d.disk

-- its writes and says, the newest first
abbrev pub calls_of : NeverDesk → List Call
calls_of d = disk.calls_of d.disk

-- what reads give, and the output
abbrev pub reads_as : NeverDesk → Image
reads_as d = disk.reads_as d.disk

-- a crash leaves what reads give
abbrev pub may_leave_of : NeverDesk → Image → Type 0
may_leave_of d = StandsWhole (first_of d) (calls_of d)

-- how many writes and says there were
abbrev pub moment_of : NeverDesk → ℕ
moment_of d = disk.moment_of d.disk

-- what reads gave at some moment from that one on
abbrev pub left_since_of : NeverDesk → ℕ → Image → Type 0
left_since_of d = LeftSince (StandsWhole (first_of d)) (calls_of d)

abbrev pub disk_faults_of : NeverDesk → ℕ
disk_faults_of d = d.disk_faults

abbrev pub say_faults_of : NeverDesk → ℕ
say_faults_of d = d.say_faults

-- how many calls failed for want of memory
abbrev pub short_of : NeverDesk → ℕ
short_of d = d.short
