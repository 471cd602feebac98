use Rattle.std.proofs.lemmas.Result.{IfOk-weaker}
use Rattle.yw_steps.proofs.CompleteLaw.{breaks}
use Rattle.yw_steps.proofs.completing.ask_mapping.Goals as goal

pub returns : goal.returns
returns c = λ who shown f boxed found stands_in.
    IfOk-weaker c.broken_of.result _ _
    (breaks f boxed c.args.j.now c.numbers.ensures.identity c.args.net.now who c.args.out.now)
    (c.broken_of.ensures who shown f found stands_in)
