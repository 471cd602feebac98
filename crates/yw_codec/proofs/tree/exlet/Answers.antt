use Rattle.std.proofs.lemmas.Result.{err_from_is_err_and}
use Rattle.yw_codec.specs.TreeLaws.{no_exlet}
use Rattle.yw_codec.proofs.tree.exlet.Goals as goal

pub returns-in_err-steps-clause-bad : goal.returns-in_err-steps-clause-bad
returns-in_err-steps-clause-bad c =
    let p = err_from_is_err_and c.from_residual.result c.from_residual.ensures.1 in
    rw (p.1, p.2) (λ bad. no_exlet c.args.reader.now (c.in_err-steps.ensures.bad bad))
