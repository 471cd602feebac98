use Rattle.std.proofs.Common.{◌≡◌, take, map}
use Rattle.std.specs.Prelude.{is_some}
use Rattle.yw_accept.specs.Scopes.{gathered}
use Rattle.yw_expr.specs.Scope.{binding}
use Rattle.yw_read.specs.declared.raw.RawOut.{RawOut}
use Rattle.yw_accept.proofs.layers.outs_layer.Given as goal

abbrev pub invariant-loop-parameter : goal.invariant-loop-parameter
invariant-loop-parameter l = l.layer ≡ map (λ (p : RawOut). binding p.name (gathered (is_some l.task.each) p.sort)) (take l.parameter-index l.task.outs)
