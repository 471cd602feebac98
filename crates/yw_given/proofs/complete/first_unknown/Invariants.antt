use Rattle.std.specs.Prelude.{◌≡◌}
use Rattle.std.specs.Option.{option_copied}
use Rattle.std.proofs.Common.{drop}
use Rattle.yw_given.specs.Found.{is_known}
use Rattle.yw_given.proofs.complete.first_unknown.Given as goal
use Rattle.yw_state.specs.Given.{first_failing}

abbrev pub invariant-loop-i : goal.invariant-loop-i
invariant-loop-i l = option_copied l.least ≡ first_failing (is_known l.params) (drop l.i l.given)
