-- How looks at a desk join, and what a crash leaves of them.
use Rattle.std.proofs.Common.{◌≡◌, ℕ, ◌≤◌, Result, Ok, Err, IfOk, OnOk, inl, sym, ap, ◌∙◌, subst, arith}
use Rattle.yw_outside.specs.Causes.{Rose}
use Rattle.yw_outside.specs.Image.{Stays}
use Rattle.yw_outside.specs.Moments.{Goes, IsSettled}
use Rattle.yw_outside.specs.Since.{LeavesOnly}
use Rattle.yw_outside.specs.declared.desk.Desk.{Ghosts}
use Rattle.yw_outside.specs.declared.desk.File.{File}
use Rattle.yw_outside.specs.declared.image.Image.{Image}
use Rattle.yw_journal.proofs.Passing.{and_then, goes_on, started, stayed, weakened}
use Rattle.yw_snapshot.specs.Heads.{HasOpenCause, OnlyLooked}
use Rattle.yw_snapshot.specs.Opening.{IsUnsynced, LeftAfterSyncs, OpensBy}
use Rattle.yw_snapshot.specs.declared.choosing.OpenFault.{OpenFault}
use Rattle.yw_snapshot.specs.declared.choosing.OpenFault.TheVariants.{Disk, Damaged, Memory}

-- the cause of an answer, from calls before it that didn't fail
pub cause_from : {D T : Type 0} (g : Ghosts D) (found whole : File → ℕ → Type 0) (old mid new : D) (result : Result T OpenFault) → g.disk_faults mid ≡ g.disk_faults old
    → ((f : File) (place : ℕ) → found f place → whole f place) → HasOpenCause g result found mid new → HasOpenCause g result whole old new
cause_from g found whole old mid new (Ok v) same here cause = cause ∙ same
cause_from g found whole old mid new (Err Disk) same here cause = subst (λ (n : ℕ). Rose n (g.disk_faults new)) same cause
cause_from g found whole old mid new (Err (Damaged f place)) same here cause = (here f place cause.0, cause.1 ∙ same)
cause_from g found whole old mid new (Err Memory) same here cause = cause ∙ same

module _ {D : Type 0} (g : Ghosts D) where
  pub looked_on : (old mid new : D) → OnlyLooked g old mid → OnlyLooked g mid new → OnlyLooked g old new
  looked_on old mid new a b = record {
    same = b.same ∙ a.same;
    crash = λ c left. a.crash c (b.crash c left);
    moments = and_then g old mid new (g.may_leave old) (g.may_leave mid) a.moments b.moments a.crash;
    telling = b.telling ∙ a.telling;
    disk = omega (arith, a.disk, b.disk);
    say = b.say ∙ a.say;
  }

  -- what is settled stays so
  pub still_settled : (old new : D) → OnlyLooked g old new → IsSettled (g.state old) (g.may_leave old) → IsSettled (g.state new) (g.may_leave new)
  still_settled old new looked settled = record {
    a = λ k left. settled.a k (looked.crash k left) ∙ ap (λ (j : Image). j.a) (sym looked.same);
    b = λ k left. settled.b k (looked.crash k left) ∙ ap (λ (j : Image). j.b) (sym looked.same);
  }

  -- looks alone came
  pub unsynced : (old new : D) → OnlyLooked g old new → IsUnsynced g old new
  unsynced old new looked = record { same = looked.same; moments = looked.moments }

  -- looks at settled files leave them
  pub looks_leave : (old new : D) → ((i : Image) → g.may_leave old i → i.said ≡ (g.state old).said) → OnlyLooked g old new
      → IsSettled (g.state old) (g.may_leave old) → LeavesOnly g old new (LeftAfterSyncs (g.state old))
  looks_leave old new said looked settled = weakened g old new (g.may_leave old) (LeftAfterSyncs (g.state old)) looked.moments
      (λ i left. record { files = inl (settled.a i left, settled.b i left); said = said i left })

  -- looks after a time leave what a crash at its end left
  pub then_looks : (old mid new : D) (P : Image → Type 0) → ((t : ℕ) (c : Image) → t ≤ g.moment mid → g.may_leave mid c → g.left_since mid t c)
      → LeavesOnly g old mid P → OnlyLooked g mid new → LeavesOnly g old new P
  then_looks old mid new P now first looked =
      and_then g old mid new P (g.may_leave mid) first looked.moments (λ c left. first.each c (now (g.moment old) c first.later left))

  -- looks come first, after which the desk holds the same
  pub looks_then : (old mid new : D) → ((i : Image) → g.may_leave old i → i.said ≡ (g.state old).said) → OnlyLooked g old mid
      → IsSettled (g.state old) (g.may_leave old) → LeavesOnly g mid new (LeftAfterSyncs (g.state mid)) → LeavesOnly g old new (LeftAfterSyncs (g.state old))
  looks_then old mid new said looked settled then =
      and_then g old mid new (LeftAfterSyncs (g.state old)) (LeftAfterSyncs (g.state mid)) (looks_leave old mid said looked settled) then
      (λ k left. subst (λ (i : Image). LeftAfterSyncs i k) looked.same left)

  -- the files were synced, and then came what leaves them or begins one
  pub opens_by : (old synced new : D) → OnlyLooked g old synced → IsSettled (g.state synced) (g.may_leave synced)
      → LeavesOnly g synced new (LeftAfterSyncs (g.state synced)) → OpensBy g old new
  opens_by old synced new first settled after = record {
    synced = synced;
    same = first.same;
    settled = settled;
    before = first.moments;
    after = subst (λ (i : Image). LeavesOnly g synced new (LeftAfterSyncs i)) first.same after;
  }

  -- the files were synced, and nothing came after it
  pub opens_synced : (old synced : D) → OnlyLooked g old synced → IsSettled (g.state synced) (g.may_leave synced) → ((i : Image) → g.may_leave synced i → i.said ≡ (g.state synced).said)
      → ((i : Image) → g.left_since synced (g.moment synced) i → g.may_leave synced i) → OpensBy g old synced
  opens_synced old synced first settled said now = opens_by old synced synced first settled
      (started g synced (LeftAfterSyncs (g.state synced)) (λ i since.
      let left = now i since in
      record { files = inl (settled.a i left, settled.b i left); said = said i left }))

  -- nothing was said by then
  pub said_still : (old new : D) (i : Image) → LeavesOnly g old new (LeftAfterSyncs i) → ((t : ℕ) (c : Image) → t ≤ g.moment new → g.may_leave new c → g.left_since new t c)
      → g.may_leave new (g.state new) → (g.state new).said ≡ i.said
  said_still old new i left now reads = (left.each (g.state new) (now (g.moment old) (g.state new) left.later reads)).said

  -- a call that leaves all as it was leaves what a crash at its beginning left
  pub then_stays : (old mid new : D) (P : Image → Type 0) → ((t : ℕ) (c : Image) → t ≤ g.moment mid → g.may_leave mid c → g.left_since mid t c) → LeavesOnly g old mid P
      → Goes g.moment g.left_since g.may_leave Stays mid new → LeavesOnly g old new P
  then_stays old mid new P now first time =
      goes_on g old mid new Stays (g.may_leave mid) (g.may_leave new) P first time (λ c after. first.each c (now (g.moment old) c first.later (stayed (g.may_leave mid) c after)))

-- what holds of each answer holds of this
pub if_ok_map : {T E : Type 0} (r : Result T E) (P Q : T → Type 0) → ((v : T) → P v → Q v) → IfOk r P → IfOk r Q
if_ok_map (Ok v) P Q here p = here v p
if_ok_map (Err e) P Q here p = p

pub on_ok : {T E : Type 0} (r : Result T E) (X : Type 0) → X → OnOk r X
on_ok (Ok v) X x = x
on_ok (Err e) X x = tt
