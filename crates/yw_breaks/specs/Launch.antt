-- What a launch breaks first, where a specification of the name is loaded.
use Rattle.std.specs.Prelude.{◌+◌, ℕ, List, None, Option, Some, nat_lt, option_and_then, option_map, if◌then◌else◌}
use Rattle.std.specs.Option.{option_or}
use Rattle.yw_base.specs.Identity.{number_end}
use Rattle.yw_library.specs.Holdings.{Holdings, IsKept}
use Rattle.yw_spec.specs.declared.spec.Net.{Net}
use Rattle.yw_spec.specs.declared.spec.Spec.{Spec}
use Rattle.yw_state.specs.Broken.{placed, placeless}
use Rattle.yw_state.specs.Given.{unwanted}
use Rattle.yw_state.specs.Nets.{top_net}
use Rattle.yw_state.specs.declared.command.Given.{Given}
use Rattle.yw_state.specs.declared.rule.Refusal.{Refusal}
use Rattle.yw_state.specs.declared.rule.Rule.{Rule}
use Rattle.yw_state.specs.declared.rule.Rule.TheVariants as rules

-- Under the name a text is loaded that says this specification.
pub record SaysSpec (known : Holdings) (name : List ℕ) (spec : Spec) : Type 0 where
  pub number : ℕ
  pub kept : IsKept known name spec number

-- no number is left, where this is drawn next
abbrev pub number_rule : ℕ → Option Rule
number_rule next = if nat_lt number_end (next + 1) then Some rules.Numbers else None

-- the first name of a value that the top net doesn't want
abbrev pub unwanted_at : Spec → List Given → Option (List ℕ)
unwanted_at spec gs = option_and_then (λ (net : Net). unwanted net.vars gs) (top_net spec)

abbrev pub launch_fault : Spec → ℕ → List Given → Option Refusal
launch_fault spec next gs = option_or (option_map (placed rules.BadData) (unwanted_at spec gs)) (option_map placeless (number_rule next))
