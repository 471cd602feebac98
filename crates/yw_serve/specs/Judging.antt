-- What the words do that judge one text: the verdict on it, as a status.
use Rattle.std.specs.Prelude.{◌≡◌, ◌⊎◌, ℕ, List, Bool, Option}
use Rattle.yw_judge.specs.Ends.{Ends, Says, Takes, verdict_of}
use Rattle.yw_judge.specs.declared.judgement.Judgement.{Ghosts as Judgements}
use Rattle.yw_judge.specs.declared.verdict.Verdict.{Verdict}
use Rattle.yw_judge.specs.declared.verdict.Verdict.TheVariants as verdicts
use Rattle.yw_serve.specs.declared.top.Status.{Status}
use Rattle.yw_serve.specs.declared.top.Status.TheVariants.{Ok, Findings, Usage, Disk, Memory, Read, Write, Damaged, Full, InputLimit}
use Rattle.yw_outside.specs.declared.desk.Desk.{Ghosts}

abbrev pub status_of : Verdict → Status
status_of verdicts.Accepted = Ok
status_of verdicts.Refused = Findings
status_of verdicts.Memory = Memory
status_of verdicts.Read = Read
status_of verdicts.Write = Write

-- The status is that of a verdict on these bytes, which was said; nothing else may be found of them.
pub record Judges {D F : Type 0} (g : Ghosts D) (j : Judgements F)
    (status : Status) (bytes : List ℕ) (left : Option (List ℕ)) (old new : D) : Type 0 where
  pub verdict : Verdict
  pub is : status ≡ status_of verdict
  pub ends : Ends g j verdict bytes old new
  pub only : (finding : F) → j.is_found bytes finding → Says g j verdict finding old new
  pub takes : Takes j.limit verdict bytes left

-- the status is that of what is found, by whether it is a yes, or no memory was left, or the text couldn't be read or its line said
abbrev pub Tells : Bool → Status → Type 0
Tells accepts status = (status ≡ status_of (verdict_of accepts)) ⊎ (status ≡ Memory) ⊎ (status ≡ Read) ⊎ (status ≡ Write)

-- so of whatever is found of these bytes
abbrev pub TellsFound : {F : Type 0} → Judgements F → List ℕ → Status → Type 0
TellsFound {F} j bytes status = (finding : F) → j.is_found bytes finding → Tells (j.accepts finding) status

-- the statuses that words may end with that judge one text
abbrev pub IsOfJudging : Status → Type 0
IsOfJudging Ok = Unit {0}
IsOfJudging Findings = Unit {0}
IsOfJudging Memory = Unit {0}
IsOfJudging Read = Unit {0}
IsOfJudging Write = Unit {0}
IsOfJudging Usage = ⊥
IsOfJudging Disk = ⊥
IsOfJudging Damaged = ⊥
IsOfJudging Full = ⊥
IsOfJudging InputLimit = ⊥
