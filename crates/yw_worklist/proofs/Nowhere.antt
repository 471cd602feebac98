-- Where nothing stands nothing is open, nothing is suspended, and no run stands.
use Rattle.std.proofs.Common.{ap, sym, ◌∙◌}
use Rattle.std.specs.Prelude.{◌≡◌, ℕ, false, is_some, List, None, option_and_then}
use Rattle.yw_state.proofs.Standing.{Standing, at_item, at_task}
use Rattle.yw_state.proofs.Tests.{nowhere}
use Rattle.yw_state.specs.Identity.{Ident}
use Rattle.yw_state.specs.Map.{get}
use Rattle.yw_state.specs.Options.{is_some_and}
use Rattle.yw_state.specs.State.{Site, State, is_suspended}
use Rattle.yw_state.specs.declared.answer.What.{What}
use Rattle.yw_state.specs.declared.answer.What.TheVariants.{Complete, Enter, Start}
use Rattle.yw_work.specs.Holds.{has_run}
use Rattle.yw_work.specs.Open.{IsOpen}
use Rattle.yw_work.specs.declared.open.By.{By}

open_stands : (s : State) (j : Ident) (name : List ℕ) (what : What) (by : By) → IsOpen s j name what by → Standing s j
open_stands s j name Enter by o = at_task s j name o.of_task o.here
open_stands s j name Start by o = at_item s j o.item o.here
open_stands s j name Complete by o = at_item s j o.item o.here

module _ (s : State) (j : Ident) (none : get s.sites j ≡ None) where
  pub none_open : (name : List ℕ) (what : What) (by : By) → IsOpen s j name what by → ⊥
  none_open name what by o = nowhere (sym none ∙ (open_stands s j name what by o).1)

  pub none_suspended : is_suspended s j ≡ false
  none_suspended = ap (λ o. is_some_and o (λ (x : Site). x.suspended)) none

  pub no_run : has_run s j ≡ false
  no_run = ap (λ o. is_some (option_and_then (λ (x : Site). x.run) o)) none
