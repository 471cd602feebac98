-- The start of an item, on the whole forest.
use Rattle.std.proofs.Common.{List, Some, [], subst, true, ℕ, ◌≡◌}
use Rattle.yw_base.specs.Identity.{is_identity}
use Rattle.yw_state.specs.After.{with_sites}
use Rattle.yw_state.specs.Events.{after}
use Rattle.yw_state.specs.Identity.{Ident}
use Rattle.yw_state.specs.Texts.{nothing}
use Rattle.yw_state.specs.declared.event.Event.TheVariants as events
use Rattle.yw_steps.proofs.ItemFound.{bare_state, it_stands, its_id}
use Rattle.yw_steps.specs.Starts.{Starts}
use Rattle.yw_task.specs.Standing.{ItemDoes}
use Rattle.yw_tree.specs.Forest.{IsForest, item_of, item_replaced, sites_of}
use Rattle.yw_tree.specs.declared.Forest.{Forest}
use Rattle.yw_tree.specs.declared.Node.{Node}

module _ (f : Forest) (boxed : IsForest f) (j : Ident) (identity : is_identity j ≡ true) (old : Node) (found : item_of f j ≡ Some old) where
  pub starts : (who : List ℕ) (new : Node) → ItemDoes (λ k. events.Start k who) old new → Starts j who f (item_replaced f j new)
  starts who new does =
      let id = its_id f boxed j identity old found in
      let names : ℕ → List ℕ = λ k. [] in
      record {
        leads = λ names s said sites needs.
            subst (λ k. after s (events.Start k who) said ≡ with_sites s (sites_of names (item_replaced f k new))) id ((does names f s said (it_stands f boxed j identity old found names s sites)).map);
        boxed = subst (λ k. IsForest (item_replaced f k new)) id ((does names f (bare_state names f) nothing (it_stands f boxed j identity old found names (bare_state names f) (λ i. sites_of names f))).kept);
      }
