use Rattle.std.proofs.Common.{map, take, ◌≡◌}
use Rattle.yw_nest.specs.Values.{begins_with}
use Rattle.yw_worklet.proofs.names.first_values.Given as goal
use Rattle.yw_worklet.specs.Named.{named}

abbrev pub invariant-loop-var : goal.invariant-loop-var
invariant-loop-var l = l.row ≡ map (begins_with (named l.source)) (take l.var-index l.var-items)
