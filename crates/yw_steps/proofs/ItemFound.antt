-- The item that is found at an identity stands there in each state that has the forest's map.
use Rattle.std.proofs.Common.{List, Some, ap, subst, sym, true, ℕ, ◌∙◌, ◌≡◌}
use Rattle.yw_base.specs.Identity.{is_identity}
use Rattle.yw_state.specs.Identity.{Ident}
use Rattle.yw_state.specs.State.{State, opening}
use Rattle.yw_task.specs.Standing.{ItemStands}
use Rattle.yw_tree.proofs.ForestLaw.{item_found}
use Rattle.yw_tree.specs.Forest.{IsForest, item_of, sites_of}
use Rattle.yw_tree.specs.declared.Forest.{Forest}
use Rattle.yw_tree.specs.declared.Node.{Node, out-Node}

-- a state with the map of a forest, and with nothing else
abbrev pub bare_state : (ℕ → List ℕ) → Forest → State
bare_state names f = record opening { sites = sites_of names f }

module _ (f : Forest) (boxed : IsForest f) (j : Ident) (identity : is_identity j ≡ true) (n : Node) (found : item_of f j ≡ Some n) where
  pub its_id : (out-Node n).id ≡ j
  its_id = (item_found f j n boxed found).0

  pub it_stands : (names : ℕ → List ℕ) (s : State) → s.sites ≡ sites_of names f → ItemStands names f s n
  it_stands names s sites = record {
    boxed = boxed;
    sites = sites;
    identity = subst (λ k. is_identity k ≡ true) (sym its_id) identity;
    found = ap (item_of f) its_id ∙ found;
  }
