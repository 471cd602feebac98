-- How looks at a desk join, and what their faults are from the start.
use Rattle.std.proofs.Common.{◌≡◌, ℕ, List, Option, None, Some, MatchOption, MatchResult, Result, Ok, Err, length, inl, sym, ap, ◌∙◌, subst, arith}
use Rattle.yw_outside.specs.declared.desk.File.{File}
use Rattle.yw_outside.specs.declared.image.Image.{Image}
use Rattle.yw_outside.specs.Causes.{Rose}
use Rattle.yw_outside.specs.Moments.{IsSettled}
use Rattle.yw_outside.specs.Since.{LeavesOnly}
use Rattle.yw_journal.proofs.Passing.{and_then, weakened}
use Rattle.yw_serve.specs.Opening.{HasFaultCause, IsUnsynced, LeftAfterSyncs, OnlyLooked, OpenFaults, OpensBy}
use Rattle.yw_serve.specs.declared.opening.StartFault.{StartFault}
use Rattle.yw_serve.specs.declared.opening.StartFault.TheVariants.{Disk, Damaged, Memory}
use Rattle.yw_serve.specs.Window.{IsAtHand, Shows}
use Rattle.yw_serve.specs.declared.window.Window.{Window}
use Rattle.yw_outside.specs.declared.desk.Desk.{Ghosts}

-- a fault of a later part is one of the whole
pub fault_further : {X : Type 0} (found : X → File → ℕ → Type 0) (whole : File → ℕ → Type 0) (before mid now : ℕ) (fault : StartFault) → ((x : X) → HasFaultCause (found x) mid now fault) → X
    → ((f : File) (place : ℕ) → ((x : X) → found x f place) → whole f place) → mid ≡ before → HasFaultCause whole before now fault
fault_further found whole before mid now Disk cause x here same = subst (λ (n : ℕ). Rose n now) same (cause x)
fault_further found whole before mid now (Damaged f place) cause x here same = (here f place (λ y. (cause y).0), (cause x).1 ∙ same)
fault_further found whole before mid now Memory cause x here same = cause x ∙ same

-- the count of an opening after calls that didn't fail
pub open_faults : {D T : Type 0} (g : Ghosts D) (found : File → ℕ → Type 0) (old new : D) (before : ℕ) (result : Result T StartFault) → before ≡ g.disk_faults old
    → MatchResult result (λ v. g.disk_faults new ≡ before) (HasFaultCause found before (g.disk_faults new)) → OpenFaults g result old new
open_faults g found old new before (Ok v) same cause = cause ∙ same
open_faults g found old new before (Err Disk) same cause = subst (λ (n : ℕ). Rose n (g.disk_faults new)) same cause
open_faults g found old new before (Err (Damaged f place)) same cause = cause.1 ∙ same
open_faults g found old new before (Err Memory) same cause = cause ∙ same

pub some_case : {T : Type 0} (o : Option T) (v : T) (P : Type 0) (Q : T → Type 0) → o ≡ Some v → MatchOption o P Q → Q v
some_case o v P Q e m = let F : Option _ → Type 0 = λ w. MatchOption w P Q in subst F e m

pub none_case : {T : Type 0} (o : Option T) (P : Type 0) (Q : T → Type 0) → o ≡ None → MatchOption o P Q → P
none_case o P Q e m = let F : Option _ → Type 0 = λ w. MatchOption w P Q in subst F e m

module _ {D : Type 0} (g : Ghosts D) where
  pub looked_on : (old mid new : D) → OnlyLooked g old mid → OnlyLooked g mid new
      → OnlyLooked g old new
  looked_on old mid new a b = record {
    same = b.same ∙ a.same;
    crash = λ c left. a.crash c (b.crash c left);
    moments = and_then g old mid new (g.may_leave old) (g.may_leave mid) a.moments b.moments a.crash;
    telling = b.telling ∙ a.telling;
    disk = omega (arith, a.disk, b.disk);
    say = b.say ∙ a.say;
  }

  -- what is at hand stays so where a desk holds the same and tells as before
  pub still_at_hand : (old new : D) (len : ℕ) (window : Window) (piece : List ℕ) → g.state new ≡ g.state old → g.tells new ≡ g.tells old
      → IsAtHand g old len window piece → IsAtHand g new len window piece
  still_at_hand old new len window piece same telling here = record {
    size = λ tells. here.size (sym telling ∙ tells) ∙ ap (λ (i : Image). length i.a) (sym same);
    fits = here.fits;
    shows = λ tells. subst (λ (i : Image). Shows i.a piece window) (sym same) (here.shows (sym telling ∙ tells));
  }

  -- what is settled stays so
  pub still_settled : (old new : D) → OnlyLooked g old new → IsSettled (g.state old) (g.may_leave old) → IsSettled (g.state new) (g.may_leave new)
  still_settled old new looked settled = record {
    a = λ k left. settled.a k (looked.crash k left) ∙ ap (λ (j : Image). j.a) (sym looked.same);
    b = λ k left. settled.b k (looked.crash k left) ∙ ap (λ (j : Image). j.b) (sym looked.same);
  }

  -- looks alone came
  pub unsynced : (old new : D) → OnlyLooked g old new → IsUnsynced g old new
  unsynced old new looked = record { same = looked.same; moments = looked.moments }

  -- looks at settled files leave them
  looks_leave : (old new : D) → ((i : Image) → g.may_leave old i → i.said ≡ (g.state old).said) → OnlyLooked g old new
      → IsSettled (g.state old) (g.may_leave old) → LeavesOnly g old new (LeftAfterSyncs (g.state old))
  looks_leave old new said looked settled = weakened g old new (g.may_leave old) (LeftAfterSyncs (g.state old)) looked.moments
      (λ i left. record { files = inl (settled.a i left, settled.b i left); said = said i left })

  module _ (old synced : D) (first : OnlyLooked g old synced) (settled : IsSettled (g.state synced) (g.may_leave synced))
      (said : (i : Image) → g.may_leave synced i → i.said ≡ (g.state synced).said) where
    -- the files were synced, and looks came after it
    pub opens_looking : (new : D) → OnlyLooked g synced new → OpensBy g old new
    opens_looking new looked = record {
      synced = synced;
      same = first.same;
      settled = settled;
      before = first.moments;
      after = subst (λ (i : Image). LeavesOnly g synced new (LeftAfterSyncs i)) first.same (looks_leave synced new said looked settled);
    }

    -- and a file was begun after these
    pub opens_beginning : (mid new : D) → OnlyLooked g synced mid → LeavesOnly g mid new (LeftAfterSyncs (g.state mid))
        → OpensBy g old new
    opens_beginning mid new looked then = record {
      synced = synced;
      same = first.same;
      settled = settled;
      before = first.moments;
      after = subst (λ (i : Image). LeavesOnly g synced new (LeftAfterSyncs i)) first.same
          (and_then g synced mid new (LeftAfterSyncs (g.state synced)) (LeftAfterSyncs (g.state mid)) (looks_leave synced mid said looked settled) then
          (λ k left. subst (λ (i : Image). LeftAfterSyncs i k) looked.same left));
    }
