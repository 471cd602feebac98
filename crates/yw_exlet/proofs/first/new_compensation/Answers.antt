use Rattle.std.proofs.Common.{subst}
use Rattle.std.specs.Prelude.{IfOk}
use Rattle.yw_exlet.proofs.first.new_compensation.Goals as goal
use Rattle.yw_worklet.specs.Begins.{BeginsTop}

pub returns : goal.returns
returns c = subst (λ z. IfOk c.begin_top.result (BeginsTop c.args.spec.now c.args.number z)) c.source_of-source.ensures c.begin_top.ensures
