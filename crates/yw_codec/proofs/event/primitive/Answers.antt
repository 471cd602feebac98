use Rattle.std.proofs.lemmas.Result.{err_from_is_err_and}
use Rattle.yw_codec.specs.EventLaws.{no_primitive}
use Rattle.yw_codec.proofs.event.primitive.Goals as goal

pub returns-in_err-run-clause-bad : goal.returns-in_err-run-clause-bad
returns-in_err-run-clause-bad c =
    let p = err_from_is_err_and c.from_residual.result c.from_residual.ensures.1 in
    rw (p.1, p.2) (λ bad. no_primitive c.args.reader.now (c.in_err-run.ensures.bad bad))
