-- What stands at an identity, with what the specification says of it.
use Rattle.std.specs.Prelude.{◌≡◌, Some, slice_get}
use Rattle.yw_library.specs.Held.{IsHeld}
use Rattle.yw_library.specs.Names.{names_of}
use Rattle.yw_known.specs.declared.here.ItemHere.{ItemHere}
use Rattle.yw_known.specs.declared.here.NetHere.{NetHere}
use Rattle.yw_library.specs.Holdings.{Holdings, IsKept}
use Rattle.yw_nest.specs.Items.{IsNetOf, IsOfTask}
use Rattle.yw_path.specs.Upstream.{IsUpstreamOf}
use Rattle.yw_state.specs.Identity.{Ident}
use Rattle.yw_base.specs.Identity.{parent}
use Rattle.yw_state.specs.State.{ItemAt, NetAt, State, TaskAt, item_at, net_at}
use Rattle.yw_task.specs.Standing.{ItemStands, NetStands}
use Rattle.yw_tree.specs.Entries.{item_part_of, net_part}
use Rattle.yw_tree.specs.Forest.{item_of}
use Rattle.yw_tree.specs.declared.Forest.{Forest}
use Rattle.yw_tree.specs.declared.NetState.{out-NetState}
use Rattle.yw_tree.specs.declared.Node.{out-Node}
use Rattle.yw_within.specs.Within.{IsWithin, NetIsWithin}

-- ---- a net

-- the net as the definitions have it
abbrev pub as_net_at : Holdings → NetHere → NetAt
as_net_at known h = record { part = net_part (names_of known) h.state.now; net = h.net.now }

-- The net stands at i. It is a net of the specification, which is within and is kept under its number, and the upstream is its own.
pub record IsNetHere (known : Holdings) (f : Forest) (s : State) (i : Ident) (h : NetHere) : Type 0 where
  pub stands : NetStands (names_of known) f s i h.net.now h.state.now
  pub at : net_at s i ≡ Some (as_net_at known h)
  pub of_state : IsNetOf s i h.spec.now
  pub of_spec : slice_get h.spec.now.nets (out-NetState h.state.now).net ≡ Some h.net.now
  pub spec_within : IsWithin h.spec.now
  pub within : NetIsWithin h.spec.now h.net.now
  pub upstream : IsUpstreamOf h.net.now h.up.now
  pub kept : IsKept known h.spec.now.name h.spec.now (out-NetState h.state.now).spec

-- ---- an item

-- the item and its task as the definitions have them
abbrev pub as_task_at : Holdings → ItemHere → TaskAt
as_task_at known h = record { number = (out-Node h.item.now).task; task = h.task.now; within = as_net_at known h.outer }

abbrev pub as_item_at : Holdings → ItemHere → ItemAt
as_item_at known h = record { part = item_part_of h.item.now; of_task = as_task_at known h }

-- The item stands at j. It is of this task of the net in which it stands.
pub record IsItemHere (known : Holdings) (f : Forest) (s : State) (j : Ident) (h : ItemHere) : Type 0 where
  pub identity : (out-Node h.item.now).id ≡ j
  pub found : item_of f j ≡ Some h.item.now
  pub stands : ItemStands (names_of known) f s h.item.now
  pub outer : IsNetHere known f s (parent j) h.outer
  pub of_net : slice_get h.outer.net.now.tasks (out-Node h.item.now).task ≡ Some h.task.now
  pub at : item_at s j ≡ Some (as_item_at known h)

-- its place, as yw_nest wants it
abbrev pub place_of : (known : Holdings) (f : Forest) (s : State) (j : Ident) (h : ItemHere) → IsItemHere known f s j h → IsOfTask f h.outer.spec.now j
place_of known f s j h is =
    record {
      item = h.item.now;
      outer = h.outer.state.now;
      net = h.outer.net.now;
      task = h.task.now;
      found = is.found;
      stands_in = is.outer.stands.found;
      of_net = is.outer.of_spec;
      of_task = is.of_net;
    }

-- ---- whatever the state is that is held

-- In each state that is held this is the net at i.
abbrev pub SaysNet : Holdings → Forest → Ident → NetHere → Type 0
SaysNet known f i h = (s : State) → IsHeld known f s → IsNetHere known f s i h

-- In each state that is held this is the item at j.
abbrev pub SaysItem : Holdings → Forest → Ident → ItemHere → Type 0
SaysItem known f j h = (s : State) → IsHeld known f s → IsItemHere known f s j h
