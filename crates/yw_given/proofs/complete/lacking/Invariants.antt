use Rattle.std.specs.Prelude.{◌≡◌}
use Rattle.std.proofs.Common.{drop}
use Rattle.yw_given.proofs.complete.lacking.Given as goal
use Rattle.yw_state.specs.Given.{lacking}

abbrev pub invariant-loop-param : goal.invariant-loop-param
invariant-loop-param l = lacking l.params l.given ≡ lacking (drop l.param-index l.params) l.given
