use Rattle.std.proofs.lemmas.Result.{err_from_is_err_and}
use Rattle.yw_codec.specs.FieldLaws.{none_without_second}
use Rattle.yw_codec.proofs.field.Tuple2Field.read.Goals as goal

pub returns-in_err-second-clause-bad : goal.returns-in_err-second-clause-bad
returns-in_err-second-clause-bad g c =
    let p = err_from_is_err_and c.from_residual-in_err-second.result c.from_residual-in_err-second.ensures.1 in
    rw (p.1, p.2) (λ bad. none_without_second g.A.Field.is_field g.A.Field.bytes g.B.Field.is_field g.B.Field.bytes c.args.reader.now c.read.new.reader
    c.in_ok-first.first g.met.A.Field.apart c.in_ok-first.ensures.ok (c.in_err-second.ensures.bad bad))
