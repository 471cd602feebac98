use Rattle.std.proofs.Common.{List, ℕ, arith, subst}
use Rattle.std.proofs.lemmas.Result.{err_from_is_err_and}
use Rattle.yw_codec.specs.Forms.{NoneStands, Stands}
use Rattle.yw_states.specs.Wholes.{more_after, none_whole}
use Rattle.yw_states.proofs.rows.read_whole.Goals as goal

pub returns-in_err-value-clause-bad : goal.returns-in_err-value-clause-bad
returns-in_err-value-clause-bad g c =
    let p = err_from_is_err_and c.from_residual.result c.from_residual.ensures.1 in
    rw (p.1, p.2) (λ bad. none_whole g.T.Field.is_field g.T.Field.bytes c.args.bytes.now
    (subst (NoneStands g.T.Field.is_field g.T.Field.bytes) c.new-reader.ensures (c.in_err-value.ensures.bad bad)))

pub returns-then-left-gt0-clause-bad : goal.returns-then-left-gt0-clause-bad
returns-then-left-gt0-clause-bad g c = λ bad.
    more_after g.T.Field.is_field g.T.Field.bytes c.args.bytes.now g.met.T.Field.apart c.in_ok-value.value c.read.new.reader
    (subst (λ (l : List ℕ). Stands g.T.Field.is_field g.T.Field.bytes l c.in_ok-value.value c.read.new.reader) c.new-reader.ensures c.in_ok-value.ensures.ok)
    (omega (arith, c.left.ensures, c.if-left-gt0.true))
