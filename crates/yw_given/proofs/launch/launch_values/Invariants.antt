use Rattle.std.specs.Prelude.{◌≡◌, map}
use Rattle.std.proofs.Common.{take}
use Rattle.yw_given.proofs.launch.launch_values.Given as goal
use Rattle.yw_state.specs.Given.{launch_value}

abbrev pub invariant-loop-var : goal.invariant-loop-var
invariant-loop-var l = l.row ≡ map (launch_value l.given) (take l.var-index l.var-items)
