use Rattle.std.proofs.Common.{map, take, ◌≡◌}
use Rattle.yw_worklet.proofs.names.returned_values.Given as goal
use Rattle.yw_worklet.specs.Named.{handed_back, named, returned_value}

abbrev pub invariant-loop-param : goal.invariant-loop-param
invariant-loop-param l = l.row ≡ map (returned_value (handed_back l.vars l.values) (named l.given)) (take l.param-index l.param-items)
