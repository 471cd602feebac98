-- What each verdict says of the text, of the output and of the files. The desk was `old` and is `new`.
use Rattle.std.specs.Prelude.{◌≡◌, ◌⊎◌, ℕ, List, Bool, true, false, Option}
use Rattle.yw_outside.specs.Moments.{After}
use Rattle.yw_outside.specs.Since.{LeavesOnly}
use Rattle.yw_outside.specs.Tells.{Tells, TellsWhole}
use Rattle.yw_outside.specs.declared.desk.Desk.{Ghosts}
use Rattle.yw_outside.specs.declared.image.Image.{Image}
use Rattle.yw_judge.specs.Taken.{TakesAll, TakesSome}
use Rattle.yw_judge.specs.declared.judgement.Judgement.{Ghosts as Judgements}
use Rattle.yw_judge.specs.declared.verdict.Verdict.{Verdict}
use Rattle.yw_judge.specs.declared.verdict.Verdict.TheVariants.{Accepted, Refused, Memory, Read, Write}

-- the verdict where a finding is said whole, by whether it is a yes
abbrev pub verdict_of : Bool → Verdict
verdict_of true = Accepted
verdict_of false = Refused

-- With this verdict this finding was said, or part of it, or nothing.
abbrev pub Says : {D F : Type 0} → Ghosts D → Judgements F → Verdict → F → D → D → Type 0
Says g j Accepted finding old new = (j.accepts finding ≡ true) × TellsWhole g (j.line finding) old new
Says g j Refused finding old new = (j.accepts finding ≡ false) × TellsWhole g (j.line finding) old new
Says g j Write finding old new = Tells g (j.line finding) old new
Says g j Memory finding old new = new ≡ old
Says g j Read finding old new = new ≡ old

-- What was said is what is found of these bytes.
abbrev pub SaysOf : {D F : Type 0} → Ghosts D → Judgements F → Verdict → List ℕ → D → D → Type 0
SaysOf {D} {F} g j verdict bytes old new = (finding : F) × j.is_found bytes finding × Says g j verdict finding old new

-- how it ends with each verdict
abbrev pub Ends : {D F : Type 0} → Ghosts D → Judgements F → Verdict → List ℕ → D → D → Type 0
Ends g j Accepted bytes old new = SaysOf g j Accepted bytes old new
Ends g j Refused bytes old new = SaysOf g j Refused bytes old new
Ends g j Write bytes old new = SaysOf g j Write bytes old new
Ends g j Memory bytes old new = new ≡ old
Ends g j Read bytes old new = new ≡ old

-- how much was taken with each verdict: where something was to be said, all, or one byte more than is looked into
abbrev pub Takes : ℕ → Verdict → List ℕ → Option (List ℕ) → Type 0
Takes limit Accepted bytes left = TakesAll limit bytes left
Takes limit Refused bytes left = TakesAll limit bytes left
Takes limit Write bytes left = TakesAll limit bytes left
Takes limit Memory bytes left = TakesSome limit bytes left
Takes limit Read bytes left = TakesSome limit bytes left

-- the verdict is that of a finding, or no memory was left, or the text couldn't be read, or the line not said
abbrev pub IsVerdictOf : Bool → Verdict → Type 0
IsVerdictOf accepts verdict = (verdict ≡ verdict_of accepts) ⊎ (verdict ≡ Memory) ⊎ (verdict ≡ Read) ⊎ (verdict ≡ Write)

-- two images whose files are the same
pub record HasSameFiles (old new : Image) : Type 0 where
  pub a : new.a ≡ old.a
  pub b : new.b ≡ old.b

-- No call of a file was made: the files are as before, none of their calls failed, and what a crash at any moment leaves of them it might
-- have left before.
pub record KeepsFiles {D : Type 0} (g : Ghosts D) (old new : D) : Type 0 where
  pub same : HasSameFiles (g.state old) (g.state new)
  pub faults : g.disk_faults new ≡ g.disk_faults old
  pub moments : LeavesOnly g old new (After HasSameFiles (g.may_leave old))
