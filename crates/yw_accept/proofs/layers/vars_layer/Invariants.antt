use Rattle.std.proofs.Common.{◌≡◌, take, map}
use Rattle.yw_expr.specs.Scope.{binding}
use Rattle.yw_read.specs.declared.raw.RawVar.{RawVar}
use Rattle.yw_accept.proofs.layers.vars_layer.Given as goal

abbrev pub invariant-loop-variable : goal.invariant-loop-variable
invariant-loop-variable l = l.layer ≡ map (λ (v : RawVar). binding v.name v.sort) (take l.variable-index l.net.vars)
