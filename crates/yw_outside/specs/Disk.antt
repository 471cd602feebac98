-- What the files and the output of a desk in memory stand for, with its calls.
use Rattle.std.specs.Prelude.{◌≡◌, ℕ, List, length, ◌∷◌, ◌++◌, [], Result, MatchResult}
use Rattle.yw_outside.specs.declared.image.Image.{Image}
use Rattle.yw_outside.specs.declared.log.Call.{Call}
use Rattle.yw_outside.specs.declared.log.Made.{Made}
use Rattle.yw_outside.specs.declared.disk.Disk.{Disk}
use Rattle.yw_outside.specs.Counts.{one_more}
use Rattle.yw_outside.specs.Log.{state_of, calls_in, up_to, MayLeave, LeftSince}
use Rattle.yw_outside.specs.Stored.{at_first}

-- the files at first
abbrev pub first_of : Disk → Image
first_of d = at_first d.a d.b

-- the calls with their numbers, the oldest first
abbrev pub log_of : Disk → List Made
log_of d = d.log.items

-- the calls, the newest first
abbrev pub calls_of : Disk → List Call
calls_of d = calls_in (log_of d)

-- what reads give, and the output
abbrev pub reads_as : Disk → Image
reads_as d = state_of (first_of d) (calls_of d)

-- One call more: it is kept at Ok, and nothing is done else.
pub record Adds {T E : Type 0} (call : Call) (old : Disk) (result : Result T E) (new : Disk) : Type 0 where
  pub made : new.made ≡ one_more old.made
  pub first : first_of new ≡ first_of old
  pub log : MatchResult result (λ _. log_of new ≡ log_of old ++ (record { number = new.made; call = call }) ∷ []) (λ _. log_of new ≡ log_of old)
  pub calls : MatchResult result (λ _. calls_of new ≡ call ∷ calls_of old) (λ _. calls_of new ≡ calls_of old)

-- what a crash now may leave
abbrev pub may_leave_of : Disk → Image → Type 0
may_leave_of d = MayLeave (first_of d) (calls_of d)

-- how many calls were kept
abbrev pub moment_of : Disk → ℕ
moment_of d = length (calls_of d)

-- what a crash at some moment from that one on might have left
abbrev pub left_since_of : Disk → ℕ → Image → Type 0
left_since_of d = LeftSince (MayLeave (first_of d)) (calls_of d)

-- the calls up to this number, the newest first
abbrev pub calls_up_to : Disk → ℕ → List Call
calls_up_to d call = calls_in (up_to call (log_of d))
