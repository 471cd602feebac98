use Rattle.std.proofs.lemmas.Result.{err_from_is_err_and}
use Rattle.yw_codec.specs.PlaceLaws.{no_between}
use Rattle.yw_codec.proofs.place.between.Goals as goal

pub returns-in_err-from-clause-bad : goal.returns-in_err-from-clause-bad
returns-in_err-from-clause-bad c =
    let p = err_from_is_err_and c.from_residual.result c.from_residual.ensures.1 in
    rw (p.1, p.2) (λ bad. no_between c.args.reader.now (c.in_err-from.ensures.bad bad))
