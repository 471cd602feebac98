use Rattle.std.proofs.Common.{map, take, ◌≡◌}
use Rattle.yw_nest.proofs.vals.first_values.Given as goal
use Rattle.yw_nest.specs.Values.{begins_with}
use Rattle.yw_state.specs.ByName.{param_value}

abbrev pub invariant-loop-var : goal.invariant-loop-var
invariant-loop-var l = l.row ≡ map (begins_with (param_value l.ins l.given)) (take l.var-index l.var-items)
