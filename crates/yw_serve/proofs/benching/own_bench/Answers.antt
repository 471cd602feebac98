use Rattle.std.proofs.Common.{ap}
use Rattle.std.proofs.lemmas.Result.{IfOk-weaker}
use Rattle.yw_outside.specs.declared.image.Image.{Image}
use Rattle.yw_serve.proofs.benching.own_bench.Goals as goal

pub bench-requires-clause-empty : goal.bench-requires-clause-empty
bench-requires-clause-empty c = record { a = ap (λ (i : Image). i.a) c.new-desk.ensures.state; b = ap (λ (i : Image). i.b) c.new-desk.ensures.state }

pub returns : goal.returns
returns c = IfOk-weaker c.bench.result _ _ (λ summary done. record { steps = done.steps; reached = done.reached; run = done.run; counted = done.counted }) c.bench.ensures.ok
