-- What stands in a state as the boxes have it, and what an event does there.
use Rattle.std.specs.Prelude.{◌≡◌, ℕ, List, Some, true}
use Rattle.yw_base.specs.Identity.{is_identity}
use Rattle.yw_spec.specs.declared.spec.Net.{Net}
use Rattle.yw_state.specs.After.{with_sites}
use Rattle.yw_state.specs.Events.{after}
use Rattle.yw_state.specs.Identity.{Ident}
use Rattle.yw_state.specs.State.{State, net_of}
use Rattle.yw_state.specs.Texts.{Said}
use Rattle.yw_state.specs.declared.event.Event.{Event}
use Rattle.yw_tree.specs.Entries.{net_part}
use Rattle.yw_tree.specs.Forest.{IsForest, item_of, item_replaced, sites_of}
use Rattle.yw_tree.specs.Places.{net_at}
use Rattle.yw_tree.specs.declared.Forest.{Forest}
use Rattle.yw_tree.specs.declared.NetState.{NetState}
use Rattle.yw_tree.specs.declared.Node.{Node, out-Node}

-- The state has the map of a forest, in which the item stands at its identity. Specifications have these names.
pub record ItemStands (names : ℕ → List ℕ) (f : Forest) (s : State) (n : Node) : Type 0 where
  pub boxed : IsForest f
  pub sites : s.sites ≡ sites_of names f
  pub identity : is_identity (out-Node n).id ≡ true
  pub found : item_of f (out-Node n).id ≡ Some n

-- The event leads to the state that has the map of the forest with the item new in the place of old, and that forest is well boxed.
pub record Places (names : ℕ → List ℕ) (f : Forest) (s t : State) (old new : Node) : Type 0 where
  pub map : t ≡ with_sites s (sites_of names (item_replaced f (out-Node old).id new))
  pub kept : IsForest (item_replaced f (out-Node old).id new)

-- wherever the item stands, the event at it puts the other in its place
abbrev pub ItemDoes : (Ident → Event) → Node → Node → Type 0
ItemDoes event old new =
    (names : ℕ → List ℕ) (f : Forest) (s : State) (said : Said) → ItemStands names f s old
    → Places names f s (after s (event (out-Node old).id) said) old new

-- The state has the map of a forest, in which this net stands at i; the specification that it is of has this net.
pub record NetStands (names : ℕ → List ℕ) (f : Forest) (s : State) (i : Ident) (net : Net) (state : NetState) : Type 0 where
  pub boxed : IsForest f
  pub sites : s.sites ≡ sites_of names f
  pub identity : is_identity i ≡ true
  pub found : net_at f i ≡ Some state
  pub known : net_of s (net_part names state) ≡ Some net
