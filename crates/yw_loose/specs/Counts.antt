-- What is kept of how many items are done, and what it says of a state. Our own.
use Rattle.std.specs.BTreeMap as tree
use Rattle.std.specs.Prelude.{◌≡◌, ◌≢◌, ◌⊎◌, ◌+◌, ◌==◌, ◌&&◌, ℕ, Bool, List, Option, Some, Vec, cond, false, is_some, slice_get, true}
use Rattle.std.specs.declared.alloc.Global.{Global}
use Rattle.yw_base.specs.Identity.{is_identity, case_number}
use Rattle.yw_enabled.specs.Left.{is_done}
use Rattle.yw_library.specs.Held.{IsHeld}
use Rattle.yw_library.specs.Holdings.{Holdings}
use Rattle.yw_loose.specs.declared.counts.Counts.{Counts}
use Rattle.yw_texts.specs.Texts.{reader}
use Rattle.yw_progress.specs.Progress.{completed_by, done_in, is_anew}
use Rattle.yw_state.specs.Events.{Leads}
use Rattle.yw_state.specs.Identity.{Ident, is_child, same}
use Rattle.yw_state.specs.Map.{lexical}
use Rattle.yw_state.specs.Options.{is_some_and}
use Rattle.yw_state.specs.State.{State, net_part}
use Rattle.yw_state.specs.Well.{IsWell}
use Rattle.yw_state.specs.declared.event.Event.{Event}
use Rattle.yw_task.specs.Asked.{is_active}
use Rattle.yw_tree.specs.Forest.{item_of}
use Rattle.yw_tree.specs.Places.{net_at}
use Rattle.yw_tree.specs.declared.Forest.{Forest}
use Rattle.yw_tree.specs.declared.NetState.{NetState}
use Rattle.yw_tree.specs.declared.Node.{Node, out-Node}

-- the counts of the net at i, one for each of its tasks
abbrev pub counts_at : Counts → Ident → Option (Vec ℕ Global)
counts_at c i = tree.get lexical c.nets i

-- Where a net stands that has counts, so many items of each of its tasks are done.
pub record AreRight (s : State) (c : Counts) : Type 0 where
  pub right : (i : Ident) (v : Vec ℕ Global) → counts_at c i ≡ Some v → is_some (net_part s i) ≡ true
      → (k d : ℕ) → slice_get v.items k ≡ Some d → d ≡ done_in s i k

-- Each net has the counts that it had, but for the one at `at`, which may have these.
pub record Puts (old new : Counts) (at : Ident) (v : Vec ℕ Global) : Type 0 where
  pub each : (i : Ident) (w : Vec ℕ Global) → counts_at new i ≡ Some w → (counts_at old i ≡ Some w) ⊎ ((i ≡ at) × (w ≡ v))

-- ---- an event

-- Each count is as it was, or one more where its task passes the test.
pub record AreMore (before now : List ℕ) (more : ℕ → Bool) : Type 0 where
  pub each : (k d : ℕ) → slice_get now k ≡ Some d → (b : ℕ) × (slice_get before k ≡ Some b) × (d ≡ b + cond (more k) 1 0)

-- the item at j is one of task k in the net at i, and is done
abbrev pub is_done_item : Forest → Ident → Ident → ℕ → Bool
is_done_item f i j k = is_child j i && is_some_and (item_of f j) (λ (n : Node). (out-Node n).task == k && is_done n)

-- Each net has the counts that it had, or none any more; none where it begins or ends by the event.
pub record Leaves (e : Event) (old new : Counts) : Type 0 where
  pub had : (i : Ident) (v : Vec ℕ Global) → counts_at new i ≡ Some v → counts_at old i ≡ Some v
  pub stays : (i : Ident) (v : Vec ℕ Global) → is_identity i ≡ true → counts_at new i ≡ Some v → is_anew e i ≡ false

-- Each net has the counts that it had, or none any more; none in case n.
pub record LosesCase (n : ℕ) (old new : Counts) : Type 0 where
  pub had : (i : Ident) (v : Vec ℕ Global) → counts_at new i ≡ Some v → counts_at old i ≡ Some v
  pub others : (i : Ident) (v : Vec ℕ Global) → counts_at new i ≡ Some v → case_number i ≢ n

-- Each net has the counts that it had, with one more of the task of the item at j where that is done, or none any more.
pub record CountsOne (f : Forest) (j : Ident) (old new : Counts) : Type 0 where
  pub was : (i : Ident) (v : Vec ℕ Global) → is_identity i ≡ true → counts_at new i ≡ Some v
      → (w : Vec ℕ Global) × (counts_at old i ≡ Some w) × AreMore w.items v.items (is_done_item f i j)

-- So it is with the item that the event completes. No net has counts that begins or ends by the event.
pub record Follows (f : Forest) (e : Event) (old new : Counts) : Type 0 where
  pub stays : (i : Ident) (v : Vec ℕ Global) → is_identity i ≡ true → counts_at new i ≡ Some v → is_anew e i ≡ false
  pub was : (i : Ident) (v : Vec ℕ Global) → is_identity i ≡ true → counts_at new i ≡ Some v
      → (w : Vec ℕ Global) × (counts_at old i ≡ Some w)
      × AreMore w.items v.items (λ k. is_some_and (completed_by e) (λ (j : Ident). is_done_item f i j k))

-- Of a task without items in this net none is done; of each other as many as before.
pub record AreLeft (net : NetState) (before now : List ℕ) : Type 0 where
  pub each : (k d : ℕ) → slice_get now k ≡ Some d → (b : ℕ) × (slice_get before k ≡ Some b) × (d ≡ cond (is_active net k) b 0)

-- So it is with the counts of the net at i, which stands there.
pub record IsLeft (f : Forest) (i : Ident) (old : Counts) (v : Vec ℕ Global) : Type 0 where
  pub net : NetState
  pub stands : net_at f i ≡ Some net
  pub before : Vec ℕ Global
  pub had : counts_at old i ≡ Some before
  pub left : AreLeft net before.items v.items

-- So it is with the net at `at`, if it has counts. Each other net has the counts that it had.
pub record Exits (f : Forest) (at : Ident) (old new : Counts) : Type 0 where
  pub each : (i : Ident) (v : Vec ℕ Global) → counts_at new i ≡ Some v → ((counts_at old i ≡ Some v) × (same i at ≡ false)) ⊎ ((i ≡ at) × IsLeft f i old v)

-- counts that were right in the state before the event, are right behind it, with this forest
abbrev pub RightBehind : Forest → Event → Counts → Counts → Type 0
RightBehind f e old new =
    (known : Holdings) (s t : State) → IsWell reader s → IsHeld known f t → Leads reader s e t → AreRight s old → AreRight t new
