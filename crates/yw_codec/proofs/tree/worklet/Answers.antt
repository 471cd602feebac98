use Rattle.std.proofs.lemmas.Result.{err_from_is_err_and}
use Rattle.yw_codec.specs.TreeLaws.{no_worklet}
use Rattle.yw_codec.proofs.tree.worklet.Goals as goal

pub returns-in_err-spec-clause-bad : goal.returns-in_err-spec-clause-bad
returns-in_err-spec-clause-bad c =
    let p = err_from_is_err_and c.from_residual.result c.from_residual.ensures.1 in
    rw (p.1, p.2) (λ bad. no_worklet c.args.reader.now (c.in_err-spec.ensures.bad bad))
