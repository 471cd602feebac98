use Rattle.std.proofs.lemmas.Result.{err_from_is_err_and}
use Rattle.yw_states.specs.RowLaws.{no_ended_row}
use Rattle.yw_states.proofs.cases.EndedRowField.read.Goals as goal

pub returns-in_err-case-clause-bad : goal.returns-in_err-case-clause-bad
returns-in_err-case-clause-bad c =
    let p = err_from_is_err_and c.from_residual.result c.from_residual.ensures.1 in
    rw (p.1, p.2) (λ bad. no_ended_row c.args.reader.now (c.in_err-case.ensures.bad bad))
