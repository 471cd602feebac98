-- The events that remove something, and what they change besides. What an event removes stands in `Gone` of `yw_state`; that all else stays is the
-- paper's for exits and ends of nets. The list is our own.
use Rattle.std.specs.Prelude.{◌||◌, Bool, true, false}
use Rattle.yw_state.specs.Exlets.{case_above}
use Rattle.yw_state.specs.Identity.{Ident, same}
use Rattle.yw_base.specs.Identity.{parent}
use Rattle.yw_state.specs.declared.event.Event.{Event}
use Rattle.yw_state.specs.declared.event.Event.TheVariants as events
use Rattle.yw_state.specs.declared.tree.Primitive.{Primitive}
use Rattle.yw_state.specs.declared.tree.Primitive.TheVariants.{SuspendItem, ContinueItem, RestartItem, CompleteItem, SuspendCase, ContinueCase}

-- it may remove what stands in cases
abbrev pub may_remove : Event → Bool
may_remove (events.Exit i t places) = true
may_remove (events.Finish n) = true
may_remove (events.Cancel n) = true
may_remove (events.CompleteSub j) = true
may_remove (events.CompleteWorklet j) = true
may_remove (events.Prim r p) = true
may_remove (events.Compensated r) = true
may_remove e = false

-- it changes what is at j: the item above the run or the case, where it suspends that, continues it, restarts it or completes it
abbrev pub is_changed : Ident → Primitive → Ident → Bool
is_changed r SuspendItem j = same j (parent r)
is_changed r ContinueItem j = same j (parent r)
is_changed r RestartItem j = same j (parent r)
is_changed r CompleteItem j = same j (parent r)
is_changed r SuspendCase j = same j (case_above r)
is_changed r ContinueCase j = same j (case_above r)
is_changed r p j = false

-- it is done at j: at the net that is left, at the item whose net is at its end, at the run, or at what the run's primitive changes
abbrev pub is_done_at : Event → Ident → Bool
is_done_at (events.Exit i t places) j = same j i
is_done_at (events.CompleteSub i) j = same j i
is_done_at (events.CompleteWorklet i) j = same j i
is_done_at (events.Prim r p) j = same j r || is_changed r p j
is_done_at (events.Compensated r) j = same j r
is_done_at e j = false
