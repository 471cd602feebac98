-- Which counts of faults rose, by the answer. No failed call is passed over.
use Rattle.std.specs.Prelude.{◌≡◌, ◌≤◌, ℕ, Result, Ok, Err}
use Rattle.yw_outside.specs.Causes.{Rose}
use Rattle.yw_outside.specs.declared.desk.Desk.{Ghosts}
use Rattle.yw_judge.specs.declared.input.InputFault.{InputFault}
use Rattle.yw_judge.specs.declared.input.InputFault.TheVariants as faults
use Rattle.yw_judge.specs.declared.verdict.Verdict.{Verdict}
use Rattle.yw_judge.specs.declared.verdict.Verdict.TheVariants.{Accepted, Refused, Memory, Read, Write}

-- the count of failed reads rose under Unread, and is what it was else
abbrev pub CountsReads : {T : Type 0} → Result T InputFault → ℕ → ℕ → Type 0
CountsReads (Ok v) before now = now ≡ before
CountsReads (Err faults.Unread) before now = Rose before now
CountsReads (Err faults.Memory) before now = now ≡ before

-- The count of failed reads has not fallen, and rose under Unread alone.
pub record Reads {T : Type 0} (before now : ℕ) (result : Result T InputFault) : Type 0 where
  pub later : before ≤ now
  pub count : CountsReads result before now

-- under Read the count of failed reads rose, and else it is what it was
abbrev pub CountsRead : Verdict → ℕ → ℕ → Type 0
CountsRead Accepted before now = now ≡ before
CountsRead Refused before now = now ≡ before
CountsRead Memory before now = now ≡ before
CountsRead Read before now = Rose before now
CountsRead Write before now = now ≡ before

-- under Write the count of failed says rose, and else it is what it was
abbrev pub CountsWrite : Verdict → ℕ → ℕ → Type 0
CountsWrite Accepted before now = now ≡ before
CountsWrite Refused before now = now ≡ before
CountsWrite Memory before now = now ≡ before
CountsWrite Read before now = now ≡ before
CountsWrite Write before now = Rose before now

-- The desk tells as it did, and a say has failed under Write alone.
pub record CountsSay {D : Type 0} (g : Ghosts D) (verdict : Verdict) (old new : D) : Type 0 where
  pub tells : g.tells new ≡ g.tells old
  pub later : g.say_faults old ≤ g.say_faults new
  pub say : CountsWrite verdict (g.say_faults old) (g.say_faults new)
