use Rattle.std.proofs.Common.{◌≡◌, take}
use Rattle.yw_library.proofs.trees.scope.params_layer.Given as goal
use Rattle.yw_library.specs.Scopes.{params_of}

abbrev pub invariant-loop-param : goal.invariant-loop-param
invariant-loop-param l = l.layer ≡ params_of (take l.param-index l.params)
