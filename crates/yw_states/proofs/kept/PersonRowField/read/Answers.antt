use Rattle.std.proofs.lemmas.Result.{err_from_is_err_and}
use Rattle.yw_base.specs.Spelling.{is_name}
use Rattle.yw_codec.specs.FieldLaws.{name_apart, none_without_first, none_without_second}
use Rattle.yw_codec.specs.Fields.{is_short_list, name_bytes, short_list_bytes}
use Rattle.yw_states.specs.RowLaws.{no_person_row}
use Rattle.yw_states.proofs.kept.PersonRowField.read.Goals as goal

pub returns-in_err-name-clause-bad : goal.returns-in_err-name-clause-bad
returns-in_err-name-clause-bad c =
    let p = err_from_is_err_and c.from_residual.result c.from_residual.ensures.1 in
    rw (p.1, p.2) (λ bad. no_person_row c.args.reader.now
    (none_without_first is_name name_bytes (is_short_list is_name) (short_list_bytes name_bytes) c.args.reader.now (c.in_err-name.ensures.bad bad)))

pub returns-in_err-roles-clause-bad : goal.returns-in_err-roles-clause-bad
returns-in_err-roles-clause-bad c =
    let p = err_from_is_err_and c.from_residual-in_err-roles.result c.from_residual-in_err-roles.ensures.1 in
    rw (p.1, p.2) (λ bad. no_person_row c.args.reader.now
    (none_without_second is_name name_bytes (is_short_list is_name) (short_list_bytes name_bytes) c.args.reader.now c.read.new.reader
    c.in_ok-name.name name_apart c.in_ok-name.ensures.ok (c.in_err-roles.ensures.bad bad)))
