use Rattle.std.proofs.Common.{map, take, ◌≡◌}
use Rattle.yw_state.specs.ByName.{param_value}
use Rattle.yw_worklet.proofs.names.made_of_given.Given as goal
use Rattle.yw_worklet.specs.Named.{given_value}

abbrev pub invariant-loop-param : goal.invariant-loop-param
invariant-loop-param l = l.row ≡ map (given_value (param_value l.ins l.given)) (take l.param-index l.param-items)
