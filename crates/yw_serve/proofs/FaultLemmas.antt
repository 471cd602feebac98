-- Calls in turn, of which the first ones didn't fail.
use Rattle.std.proofs.Common.{◌≡◌, ℕ, Result, Ok, Err, inl, inr, sym, ◌∙◌, subst}
use Rattle.std.specs.Prelude.{IfErr, IsErrAnd}
use Rattle.yw_outside.specs.Causes.{Rose}
use Rattle.yw_outside.specs.Since.{NoneFailed}
use Rattle.yw_outside.specs.declared.desk.Desk.{Ghosts}
use Rattle.yw_judge.specs.Counts.{CountsRead, CountsWrite}
use Rattle.yw_judge.specs.declared.verdict.Verdict.{Verdict}
use Rattle.yw_judge.specs.declared.verdict.Verdict.TheVariants as verdicts
use Rattle.yw_serve.specs.Counted.{BenchFaults, FailedBy, IsFaultOfStart, IsFaultOfStop}
use Rattle.yw_serve.specs.Judging.{status_of}
use Rattle.yw_serve.specs.Opening.{OpenFaults}
use Rattle.yw_serve.specs.declared.counted.BenchFault.{BenchFault}
use Rattle.yw_serve.specs.declared.counted.BenchFault.TheVariants as benches
use Rattle.yw_serve.specs.declared.opening.StartFault.{StartFault}
use Rattle.yw_serve.specs.declared.opening.StartFault.TheVariants as starts
use Rattle.yw_serve.specs.Faults.{FilesFailed, SayFailed, StopFaults, CallFaults, EndingFaults, NoticeFaults, StatusFaults}
use Rattle.yw_serve.specs.declared.run.Ending.{Ending}
use Rattle.yw_serve.specs.declared.run.Ending.TheVariants as endings
use Rattle.yw_serve.specs.declared.server.Server.{Server}
use Rattle.yw_serve.specs.declared.server.Stop.{Stop}
use Rattle.yw_serve.specs.declared.server.Stop.TheVariants as stops
use Rattle.yw_serve.specs.declared.top.Status.{Status}
use Rattle.yw_serve.specs.declared.top.Status.TheVariants as statuses

module _ {D : Type 0} (g : Ghosts D) (old mid new : D) (first : NoneFailed g old mid) where
  pub none_then : NoneFailed g mid new → NoneFailed g old new
  none_then n = record { disk = n.disk ∙ first.disk; say = n.say ∙ first.say }

  pub files_then : FilesFailed g mid new → FilesFailed g old new
  files_then f = record { disk = subst (λ (n : ℕ). Rose n (g.disk_faults new)) first.disk f.disk; say = f.say ∙ first.say }

  pub say_then : SayFailed g mid new → SayFailed g old new
  say_then s = record { disk = s.disk ∙ first.disk; say = subst (λ (n : ℕ). Rose n (g.say_faults new)) first.say s.say }

  pub stop_then : (stop : Stop) → StopFaults g stop mid new → StopFaults g stop old new
  stop_then stops.Disk f = files_then f
  stop_then stops.Write f = say_then f
  stop_then stops.Memory f = none_then f
  stop_then (stops.Full n) f = none_then f

  pub call_then : {T : Type 0} (result : Result T Stop) → CallFaults g result mid new → CallFaults g result old new
  call_then (Ok v) f = none_then f
  call_then (Err stop) f = stop_then stop f

  pub failed_then : (fault : BenchFault) → FailedBy g fault mid new → FailedBy g fault old new
  failed_then benches.Disk f = files_then f
  failed_then benches.Write f = say_then f
  failed_then benches.Memory f = none_then f

  pub bench_then : {T : Type 0} (result : Result T BenchFault) → BenchFaults g result mid new → BenchFaults g result old new
  bench_then (Ok v) f = none_then f
  bench_then (Err fault) f = failed_then fault f

  pub ending_then : (ending : Ending) (before between now : ℕ) → between ≡ before → EndingFaults g ending between now mid new → EndingFaults g ending before now old new
  ending_then endings.Whole before between now e f = (f.0 ∙ e, none_then f.1)
  ending_then endings.Unread before between now e f = (subst (λ (n : ℕ). Rose n now) e f.0, none_then f.1)
  ending_then endings.Past before between now e f = (f.0 ∙ e, none_then f.1)
  ending_then (endings.Stopped stop) before between now e f = (f.0 ∙ e, stop_then stop f.1)

  pub status_then : (status : Status) (before now : ℕ) → StatusFaults g status before now mid new → StatusFaults g status before now old new
  status_then statuses.Ok before now f = (f.0, none_then f.1)
  status_then statuses.Findings before now f = (f.0, none_then f.1)
  status_then statuses.Usage before now f = (f.0, none_then f.1)
  status_then statuses.Memory before now f = (f.0, none_then f.1)
  status_then statuses.Damaged before now f = (f.0, none_then f.1)
  status_then statuses.Full before now f = (f.0, none_then f.1)
  status_then statuses.InputLimit before now f = (f.0, none_then f.1)
  status_then statuses.Disk before now f = (f.0, files_then f.1)
  status_then statuses.Read before now f = (f.0, none_then f.1)
  status_then statuses.Write before now f = (f.0, say_then f.1)

-- an answer that hands an error on
pub if_err_as : {T E : Type 0} (r : Result T E) (e : E) (P : E → Type 0) → IsErrAnd r (λ x. x ≡ e) → P e → IfErr r P
if_err_as (Ok x) e P is p = tt
if_err_as (Err y) e P is p = subst P (sym is) p

module _ {D : Type 0} (g : Ghosts D) (old new : D) where
  -- an answer that hands a stop on
  pub faults_as : {T : Type 0} (result : Result T Stop) (stop : Stop) → IsErrAnd result (λ x. x ≡ stop) → StopFaults g stop old new → CallFaults g result old new
  faults_as (Ok v) stop is f = absurd is
  faults_as (Err s) stop is f = subst (λ (x : Stop). StopFaults g x old new) (sym is) f

  -- the same of the fault of a bench
  pub failed_as : {T : Type 0} (result : Result T BenchFault) (fault : BenchFault) → IsErrAnd result (λ x. x ≡ fault) → FailedBy g fault old new → BenchFaults g result old new
  failed_as (Ok v) fault is f = absurd is
  failed_as (Err e) fault is f = subst (λ (x : BenchFault). FailedBy g x old new) (sym is) f

  -- where a server didn't start, and where a line stopped
  pub start_failed : (start : StartFault) (fault : BenchFault) → IsFaultOfStart start fault → OpenFaults {T = Server} g (Err start) old new
      → g.say_faults new ≡ g.say_faults old → FailedBy g fault old new
  start_failed starts.Disk fault is f say = subst (λ (x : BenchFault). FailedBy g x old new) (sym is) (record { disk = f; say = say })
  start_failed starts.Memory fault is f say = subst (λ (x : BenchFault). FailedBy g x old new) (sym is) (record { disk = f; say = say })
  start_failed (starts.Damaged file place) fault is f say = absurd is

  pub stop_failed : (stop : Stop) (fault : BenchFault) → IsFaultOfStop stop fault → StopFaults g stop old new → FailedBy g fault old new
  stop_failed stops.Disk fault is f = subst (λ (x : BenchFault). FailedBy g x old new) (sym is) f
  stop_failed stops.Write fault is f = subst (λ (x : BenchFault). FailedBy g x old new) (sym is) f
  stop_failed stops.Memory fault is f = subst (λ (x : BenchFault). FailedBy g x old new) (sym is) f
  stop_failed (stops.Full n) fault is f = absurd is

  -- an answer that stops for want of memory alone
  pub faults_of_memory : {T : Type 0} (result : Result T Stop) → IfErr result (λ stop. stop ≡ stops.Memory) → NoneFailed g old new → CallFaults g result old new
  faults_of_memory (Ok v) is none = none
  faults_of_memory (Err s) is none = subst (λ (x : Stop). StopFaults g x old new) (sym is) none

module _ {D : Type 0} (g : Ghosts D) (before now : ℕ) (same : now ≡ before) (old new : D) where
  -- a notice with a status whose calls didn't fail
  pub notice_faults : (status wanted : Status) → (NoneFailed g old new → StatusFaults g wanted before now old new) → NoticeFaults g status wanted old new → StatusFaults g status before now old new
  notice_faults status wanted of_none faults =
      let with_status : (q : Status) → status ≡ q → StatusFaults g q before now old new → StatusFaults g status before now old new =
      λ q e h. subst (λ (x : Status). StatusFaults g x before now old new) (sym e) h in
      elim faults [
        | inl whole ↦ with_status wanted whole.0 (of_none whole.1)
        | inr other ↦ elim other [
          | inl part ↦ with_status statuses.Write part.0 (same, part.1)
          | inr none ↦ with_status statuses.Memory none.0 (same, none.1)
        ]
      ]

-- a verdict as a status
pub checked_faults : {D : Type 0} (g : Ghosts D) (before now : ℕ) (old new : D) (verdict : Verdict) → CountsRead verdict before now → g.disk_faults new ≡ g.disk_faults old
    → CountsWrite verdict (g.say_faults old) (g.say_faults new) → StatusFaults g (status_of verdict) before now old new
checked_faults g before now old new verdicts.Accepted read disk say = (read, record { disk = disk; say = say })
checked_faults g before now old new verdicts.Refused read disk say = (read, record { disk = disk; say = say })
checked_faults g before now old new verdicts.Memory read disk say = (read, record { disk = disk; say = say })
checked_faults g before now old new verdicts.Read read disk say = (read, record { disk = disk; say = say })
checked_faults g before now old new verdicts.Write read disk say = (read, record { disk = disk; say = say })
