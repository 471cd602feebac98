use Rattle.std.proofs.Common.{◌∙◌, ap, sym}
use Rattle.std.proofs.lemmas.Result.{err_from_is_err_and}
use Rattle.yw_base.specs.Identity.{is_identity}
use Rattle.yw_codec.specs.ListLaws.{no_identity, not_identity}
use Rattle.yw_codec.proofs.name.IdentField.read.Goals as goal

pub returns-in_err-numbers-clause-bad : goal.returns-in_err-numbers-clause-bad
returns-in_err-numbers-clause-bad c =
    let p = err_from_is_err_and c.from_residual.result c.from_residual.ensures.1 in
    rw (p.1, p.2) (λ bad. no_identity c.args.reader.now (c.in_err-numbers.ensures.bad bad))

pub returns-in-None-clause-bad : goal.returns-in-None-clause-bad
returns-in-None-clause-bad c = λ bad. not_identity c.args.reader.now c.read_short_list.new.reader c.in_ok-numbers.numbers c.in_ok-numbers.ensures.ok
    (λ is. c.in-None.ensures (ap is_identity c.into_vec.ensures ∙ is))
