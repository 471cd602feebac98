use Rattle.std.proofs.lemmas.Result.{err_from_is_err_and}
use Rattle.yw_states.specs.RowLaws.{no_token_row}
use Rattle.yw_states.proofs.cases.TokenRowField.read.Goals as goal

pub returns-in_err-ident-clause-bad : goal.returns-in_err-ident-clause-bad
returns-in_err-ident-clause-bad c =
    let p = err_from_is_err_and c.from_residual.result c.from_residual.ensures.1 in
    rw (p.1, p.2) (λ bad. no_token_row c.args.reader.now (c.in_err-ident.ensures.bad bad))
