-- How time goes on at a call in memory.
use Rattle.std.proofs.Common.{◌≡◌, ◌≤◌, ℕ, Bool, true, false, cond, List, [], ◌∷◌, length, Result, Ok, Err, refl, sym, ap, subst}
use Rattle.std.proofs.lemmas.List.{append-nil}
use Rattle.yw_outside.specs.declared.desk.File.{File}
use Rattle.yw_outside.specs.declared.disk.Disk.{Disk}
use Rattle.yw_outside.specs.declared.image.Image.{Image}
use Rattle.yw_outside.specs.declared.log.Call.{Call}
use Rattle.yw_outside.specs.declared.log.Call.TheVariants.{Look, Write, Sync, Say}
use Rattle.yw_outside.specs.Disk.{first_of, calls_of, reads_as, moment_of, left_since_of, may_leave_of, Adds}
use Rattle.yw_outside.specs.Image.{file_in, Stays, Writes, Speaks}
use Rattle.yw_outside.specs.Log.{MayLeave, StandsWhole, LeftSince}
use Rattle.yw_outside.specs.LogLaws.{passes, rests, stays, silent, untorn, whole_write}
use Rattle.yw_outside.specs.Moments.{Goes, After, Passes}

module _ (may : Image → List Call → Image → Type 0) (step : Image → Image → Type 0) (old new : Disk) where
  abbrev PassesTo : Image → List Call → Type 0
  PassesTo base calls = Passes step (length (calls_of old)) (length calls) (LeftSince (may (first_of old)) (calls_of old)) (LeftSince (may base) calls) (may (first_of old) (calls_of old)) (may base calls)

  passes_from : (calls : List Call) → first_of new ≡ first_of old → calls_of new ≡ calls → PassesTo (first_of old) calls → PassesTo (first_of new) (calls_of new)
  passes_from calls e f p = subst (λ (i : Image). PassesTo i (calls_of new)) (sym e) (subst (λ (cs : List Call). PassesTo (first_of old) cs) (sym f) p)

  -- a call that is kept, or finds no memory
  pub timed : {T E : Type 0} (call : Call) → ((c : Image) → step c c) → ((c : Image) → may (first_of old) (call ∷ calls_of old) c → After step (may (first_of old) (calls_of old)) c)
      → (r : Result T E) → Adds call old r new → PassesTo (first_of new) (calls_of new)
  timed call none crash (Ok x) adds = passes_from (call ∷ calls_of old) adds.first adds.calls (passes (may (first_of old)) step call (calls_of old) crash)
  timed call none crash (Err x) adds = passes_from (calls_of old) adds.first adds.calls (rests (may (first_of old)) step (calls_of old) none)

module _ {T E : Type 0} (old new : Disk) (r : Result T E) where
  look_crash : (base : Image) (older : List Call) (c : Image) → MayLeave base (Look ∷ older) c → After Stays (MayLeave base older) c
  look_crash base older c h = (c, h, refl)

  pub look_goes : Adds Look old r new → Goes moment_of left_since_of may_leave_of Stays old new
  look_goes = timed MayLeave Stays old new Look stays (look_crash (first_of old) (calls_of old)) r

  sync_crash : (f : File) (done : Bool) (base : Image) (older : List Call) (c : Image) → MayLeave base (cond done (Sync f) Look ∷ older) c → After Stays (MayLeave base older) c
  sync_crash f true base older c h = (c, h.0, refl)
  sync_crash f false base older c h = (c, h, refl)

  pub sync_goes : (f : File) (done : Bool) → Adds (cond done (Sync f) Look) old r new → Goes moment_of left_since_of may_leave_of Stays old new
  sync_goes f done = timed MayLeave Stays old new (cond done (Sync f) Look) stays (sync_crash f done (first_of old) (calls_of old)) r

  pub write_goes : (f : File) (at : ℕ) (bytes : List ℕ) (done : Bool) → Adds (Write f at bytes done) old r new → Goes moment_of left_since_of may_leave_of (Writes f at (length bytes)) old new
  write_goes f at bytes done = timed MayLeave (Writes f at (length bytes)) old new (Write f at bytes done) (untorn f at (length bytes)) (λ c h. h) r

  say_crash : (bytes : List ℕ) (done : Bool) (base : Image) (older : List Call) (c : Image) → MayLeave base (cond done (Say bytes) Look ∷ older) c → After (Speaks bytes) (MayLeave base older) c
  say_crash bytes true base older c h =
      (h.0, h.1, record { a = ap (λ (i : Image). i.a) h.2; b = ap (λ (i : Image). i.b) h.2; said = (bytes, [], sym (append-nil bytes), ap (λ (i : Image). i.said) h.2) })
  say_crash bytes false base older c h = (c, h, silent bytes c)

  pub say_goes : (bytes : List ℕ) (done : Bool) → Adds (cond done (Say bytes) Look) old r new → Goes moment_of left_since_of may_leave_of (Speaks bytes) old new
  say_goes bytes done = timed MayLeave (Speaks bytes) old new (cond done (Say bytes) Look) (silent bytes) (say_crash bytes done (first_of old) (calls_of old)) r

  -- where it stands whole at once
  pub whole_write_goes : (f : File) (at : ℕ) (bytes : List ℕ) → at ≤ length (file_in f (reads_as old)) → Adds (Write f at bytes true) old r new
      → Passes (Writes f at (length bytes)) (moment_of old) (moment_of new) (LeftSince (StandsWhole (first_of old)) (calls_of old)) (LeftSince (StandsWhole (first_of new)) (calls_of new)) (StandsWhole (first_of old) (calls_of old)) (StandsWhole (first_of new) (calls_of new))
  whole_write_goes f at bytes within = timed StandsWhole (Writes f at (length bytes)) old new (Write f at bytes true) (untorn f at (length bytes))
      (λ c h. (reads_as old, refl, subst (λ (d : Image). Writes f at (length bytes) (reads_as old) d) (sym h) (whole_write f at bytes (reads_as old) within))) r
