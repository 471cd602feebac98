use Rattle.std.proofs.lemmas.Result.{err_from_is_err_and}
use Rattle.yw_codec.specs.ListLaws.{none_further}
use Rattle.yw_codec.proofs.field.read_items.Goals as goal

pub returns-in_err-read-clause-bad : goal.returns-in_err-read-clause-bad
returns-in_err-read-clause-bad g c =
    let p = err_from_is_err_and c.from_residual.result c.from_residual.ensures.1 in
    rw (p.1, p.2) (λ bad. none_further g.T.Field.is_field g.T.Field.bytes c.args.reader.now c.loop-i.reader c.loop-i.items c.loop-i._i c.args.count
    g.met.T.Field.apart c.loop-i.invariant c.loop-i-test.true (c.in_err-read.ensures.bad bad))
