use Rattle.std.proofs.lemmas.Result.{err_from_is_err_and}
use Rattle.yw_codec.specs.EventLaws.{no_exit}
use Rattle.yw_codec.proofs.event.exit.Goals as goal

pub returns-in_err-net-clause-bad : goal.returns-in_err-net-clause-bad
returns-in_err-net-clause-bad c =
    let p = err_from_is_err_and c.from_residual.result c.from_residual.ensures.1 in
    rw (p.1, p.2) (λ bad. no_exit c.args.reader.now (c.in_err-net.ensures.bad bad))
