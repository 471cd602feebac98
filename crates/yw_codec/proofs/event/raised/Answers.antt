use Rattle.std.proofs.lemmas.Result.{err_from_is_err_and}
use Rattle.yw_codec.specs.EventLaws.{no_raised}
use Rattle.yw_codec.proofs.event.raised.Goals as goal

pub returns-in_err-at-clause-bad : goal.returns-in_err-at-clause-bad
returns-in_err-at-clause-bad c =
    let p = err_from_is_err_and c.from_residual.result c.from_residual.ensures.1 in
    rw (p.1, p.2) (λ bad. no_raised c.args.reader.now (c.in_err-at.ensures.bad bad))
