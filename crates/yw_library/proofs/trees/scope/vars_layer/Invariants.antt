use Rattle.std.proofs.Common.{◌≡◌, take}
use Rattle.yw_library.proofs.trees.scope.vars_layer.Given as goal
use Rattle.yw_library.specs.Scopes.{vars_of}

abbrev pub invariant-loop-var : goal.invariant-loop-var
invariant-loop-var l = l.layer ≡ vars_of (take l.var-index l.vars)
