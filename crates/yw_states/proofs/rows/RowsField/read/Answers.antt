use Rattle.std.proofs.lemmas.Result.{err_from_is_err_and}
use Rattle.yw_states.specs.RowLaws.{no_rows}
use Rattle.yw_states.proofs.rows.RowsField.read.Goals as goal

pub returns-in_err-next-clause-bad : goal.returns-in_err-next-clause-bad
returns-in_err-next-clause-bad c =
    let p = err_from_is_err_and c.from_residual.result c.from_residual.ensures.1 in
    rw (p.1, p.2) (λ bad. no_rows c.args.reader.now (c.in_err-next.ensures.bad bad))
