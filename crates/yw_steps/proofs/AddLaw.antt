-- The addition of an item, on the whole forest.
use Rattle.std.proofs.Common.{Some, true, ℕ, ◌≡◌}
use Rattle.yw_base.specs.Identity.{is_identity}
use Rattle.yw_base.specs.declared.value.Value.{Value}
use Rattle.yw_spec.specs.declared.spec.Net.{Net}
use Rattle.yw_state.specs.Identity.{Ident}
use Rattle.yw_state.specs.Texts.{nothing}
use Rattle.yw_state.specs.declared.part.Checks.{Checks}
use Rattle.yw_steps.proofs.EnterLaw.{may_get}
use Rattle.yw_steps.specs.Adds.{AddsElement}
use Rattle.yw_task.specs.Adds.{AddsElement as NetAddsElement}
use Rattle.yw_tree.specs.Forest.{IsForest}
use Rattle.yw_tree.specs.Places.{net_at as net_found, placed_net}
use Rattle.yw_tree.specs.declared.Forest.{Forest}
use Rattle.yw_tree.specs.declared.NetState.{NetState}

module _ (f : Forest) (boxed : IsForest f) (i : Ident) (identity : is_identity i ≡ true) (u : NetState) (found : net_found f i ≡ Some u) (net : Net) (t : ℕ) (value : Value) (n : ℕ) where
  pub adds_element : (due : Checks) (w : NetState) → NetAddsElement net u i t value n due w → AddsElement net i t value n due f (placed_net f i w)
  adds_element due w does = λ task at names s sites needs.
      record {
        leads = λ others r said are so. (does others f r said task (may_get f boxed i identity u found net t n due others r task are at so)).map;
        boxed = (does names f s nothing task (may_get f boxed i identity u found net t n due names s task sites at needs)).kept;
      }
