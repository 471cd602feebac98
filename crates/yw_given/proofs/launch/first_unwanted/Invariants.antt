use Rattle.std.specs.Prelude.{◌≡◌}
use Rattle.std.specs.Option.{option_copied}
use Rattle.std.proofs.Common.{drop}
use Rattle.yw_given.proofs.launch.first_unwanted.Given as goal
use Rattle.yw_state.specs.Given.{first_failing, is_wanted}

abbrev pub invariant-loop-i : goal.invariant-loop-i
invariant-loop-i l = option_copied l.least ≡ first_failing (is_wanted l.vars) (drop l.i l.given)
