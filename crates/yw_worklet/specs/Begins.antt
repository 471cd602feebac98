-- The top net of a specification as it begins.
use Rattle.std.specs.Prelude.{◌≡◌, List, Some, length, ℕ}
use Rattle.yw_nest.specs.Cases.{first_tokens}
use Rattle.yw_spec.specs.declared.spec.Net.{Net}
use Rattle.yw_spec.specs.declared.spec.Spec.{Spec}
use Rattle.yw_state.specs.ByName.{Valuation, first_values}
use Rattle.yw_state.specs.Nets.{top_net}
use Rattle.yw_tree.specs.Begins.{BeginsNet}
use Rattle.yw_tree.specs.declared.NetState.{NetState}

-- It has one token, on its input, and values by name.
pub record BeginsTop (spec : Spec) (number : ℕ) (source : Valuation) (s : NetState) : Type 0 where
  pub top : Net
  pub of_spec : top_net spec ≡ Some top
  pub begins : BeginsNet number spec.top (first_tokens top) (first_values source top) (length top.tasks) s
