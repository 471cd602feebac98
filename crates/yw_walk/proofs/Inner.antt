-- The net of an item is the one at its identity.
use Rattle.std.proofs.Common.{Bool, Option, Some, ap, ◌∙◌, ◌≡◌}
use Rattle.std.specs.Prelude.{is_some, if◌then◌else◌}
use Rattle.yw_base.specs.Identity.{case_number}
use Rattle.yw_state.specs.Identity.{Ident}
use Rattle.yw_tree.proofs.ItemWith.{no_case}
use Rattle.yw_tree.specs.Forest.{IsForest, item_of, top_of}
use Rattle.yw_tree.specs.Places.{net_at, net_of_run, run_of}
use Rattle.yw_tree.specs.Ways.{net_in, net_of_item}
use Rattle.yw_tree.specs.declared.Forest.{Forest}
use Rattle.yw_tree.specs.declared.NetState.{NetState}
use Rattle.yw_tree.specs.declared.Node.{Node, out-Node}

module _ (f : Forest) (j : Ident) where
  abbrev below : Option Node → Option NetState
  below o = if is_some o then net_of_item o else net_of_run (run_of f j)

  pub its_net : IsForest f → (n : Node) → item_of f j ≡ Some n → net_at f j ≡ net_in (out-Node n).net
  its_net boxed n found =
      ap (λ (b : Bool). if b then top_of f (case_number j) else below (item_of f j)) (no_case f boxed j n found) ∙ ap below found
