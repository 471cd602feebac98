-- What a map must be, so that it is the forest's once a net in it has changed.
use Rattle.std.specs.Prelude.{◌≡◌, ◌++◌, ℕ, List, Some, false, option_map, true}
use Rattle.yw_base.specs.Identity.{is_identity, under}
use Rattle.yw_sites.specs.Entries.{Entries}
use Rattle.yw_sites.specs.Idents.{AreChildren}
use Rattle.yw_state.specs.After.{with_net}
use Rattle.yw_state.specs.Identity.{Ident}
use Rattle.yw_state.specs.Map.{get}
use Rattle.yw_state.specs.State.{Sites}
use Rattle.yw_tree.specs.Boxed.{IsBoxedNet, ids}
use Rattle.yw_tree.specs.Entries.{net_part}
use Rattle.yw_tree.specs.Forest.{IsForest, item_of, sites_of}
use Rattle.yw_tree.specs.Places.{Keeps}
use Rattle.yw_tree.specs.Shows.{ShowsNet, StandsBeside}
use Rattle.yw_tree.specs.declared.Forest.{Forest}
use Rattle.yw_tree.specs.declared.NetState.{NetState}
use Rattle.yw_tree.specs.declared.Node.{Node}

-- The net s at an identity of the forest becomes w, in form and with no item more. The map m shows w wherever the forest's map shows s,
-- has at the identity what was there with that net, and elsewhere what was.
pub record ChangesNet (names : ℕ → List ℕ) (f : Forest) (id : Ident) (s w : NetState) (m : Sites) : Type 0 where
  pub boxed : IsBoxedNet w
  pub children : (js : List Ident) → AreChildren id (ids s ++ js) → AreChildren id (ids w ++ js)
  pub shows : (beside : Entries) → StandsBeside id (ids s) beside → ShowsNet names (sites_of names f) id beside s → ShowsNet names m id beside w
  pub here : get m id ≡ option_map (with_net (λ _. net_part names w)) (get (sites_of names f) id)
  pub elsewhere : (q : Ident) → under q id ≡ false → get m q ≡ get (sites_of names f) q

-- The item old at an identity of the forest becomes w, which keeps its identity, task, net and run.
pub record ChangesItem (f : Forest) (id : Ident) (old w : Node) : Type 0 where
  pub boxed : IsForest f
  pub identity : is_identity id ≡ true
  pub found : item_of f id ≡ Some old
  pub keeps : Keeps old w
