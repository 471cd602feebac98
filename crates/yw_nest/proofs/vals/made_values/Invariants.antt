use Rattle.std.proofs.Common.{map, take, ◌≡◌}
use Rattle.yw_nest.proofs.vals.made_values.Given as goal
use Rattle.yw_nest.specs.Values.{made_value}

abbrev pub invariant-loop-param : goal.invariant-loop-param
invariant-loop-param l = l.row ≡ map (made_value l.vars l.vals) (take l.param-index l.param-items)
