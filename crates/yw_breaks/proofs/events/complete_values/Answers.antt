use Rattle.std.proofs.lemmas.Result.{IfOk-weaker}
use Rattle.yw_breaks.proofs.Asking.{complete_asks}
use Rattle.yw_breaks.proofs.events.complete_values.Goals as goal

pub returns : goal.returns
returns c = λ known f j says.
    IfOk-weaker c.made_values.result _ _ (λ out is. λ s h who. complete_asks known f s j c.args.here.now (says s h) c.args.given.now out is who)
    c.made_values.ensures
