use Rattle.std.proofs.lemmas.Bool.{false_from_ne_true}
use Rattle.std.proofs.lemmas.Result.{err_from_is_err_and}
use Rattle.yw_states.specs.Ascending.{ascend, none_ascends, none_listed}
use Rattle.yw_states.proofs.ascending.AscendingField.read.Goals as goal

pub returns-in_err-rows-clause-bad : goal.returns-in_err-rows-clause-bad
returns-in_err-rows-clause-bad g c =
    let p = err_from_is_err_and c.from_residual.result c.from_residual.ensures.1 in
    rw (p.1, p.2) (λ bad. none_listed g.T.Field.is_field g.T.Field.bytes g.T.Keyed.before c.args.reader.now (c.in_err-rows.ensures.bad bad))

pub returns-in-None-clause-bad : goal.returns-in-None-clause-bad
returns-in-None-clause-bad g c = λ bad.
    none_ascends g.T.Field.is_field g.T.Field.bytes g.T.Keyed.before c.args.reader.now c.read.new.reader c.in_ok-rows.rows
    g.met.T.Field.apart c.in_ok-rows.ensures.ok (false_from_ne_true (ascend g.T.Keyed.before c.in_ok-rows.rows) c.in-None.ensures)
