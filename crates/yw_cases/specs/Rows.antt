-- With what a case may begin.
use Rattle.std.specs.Prelude.{Bool, nat_le, ℕ, ◌&&◌, ◌+◌, ◌==◌, ◌||◌}
use Rattle.yw_base.specs.Identity.{number_end}
use Rattle.yw_base.specs.Usages.{comes_in}
use Rattle.yw_base.specs.Values.{may_hold}
use Rattle.yw_base.specs.declared.value.Value.{Value}
use Rattle.yw_spec.specs.declared.spec.Net.{Net}
use Rattle.yw_spec.specs.declared.spec.Spec.{Spec}
use Rattle.yw_spec.specs.declared.spec.Var.{Var}
use Rattle.yw_state.specs.Allowed.{launch_fits}
use Rattle.yw_state.specs.Nets.{top_net}
use Rattle.yw_state.specs.Options.{is_some_and}
use Rattle.yw_state.specs.Values.{Row, same_value}

-- a value of the variable's sort, which is its own first value where none comes in
abbrev pub launch_value_fits : Var → Value → Bool
launch_value_fits x v = may_hold x.sort v && (comes_in x.usage || same_value v x.init)

-- a case of the specification may begin under number n, where this one is drawn next
abbrev pub may_begin : Spec → ℕ → ℕ → Row → Bool
may_begin spec next n vals =
    (n == next && nat_le (n + 1) number_end) && is_some_and (top_net spec) (λ (net : Net). launch_fits net.vars vals)
