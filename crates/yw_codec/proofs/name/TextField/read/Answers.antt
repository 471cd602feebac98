use Rattle.std.proofs.Common.{◌≡◌, ◌∙◌, List, ℕ, sym, subst}
use Rattle.std.specs.Str.{IsUtf8}
use Rattle.yw_codec.specs.FieldLaws.{field_is_text, text_read, text_utf8}
use Rattle.yw_codec.specs.Fields.{is_text, text_bytes}
use Rattle.yw_codec.specs.Forms.{Stands}
use Rattle.yw_codec.proofs.name.TextField.read.Goals as goal

pub returns-in_ok-copy_of-in-Ok-clause-ok : goal.returns-in_ok-copy_of-in-Ok-clause-ok
returns-in_ok-copy_of-in-Ok-clause-ok c =
    let whole = c.args.reader.now in
    let read = text_read whole c.read.new.reader c.take.new.self c.in_ok-field.field.now c.in_ok-size.size c.in_ok-size.ensures.ok c.in_ok-field.ensures.ok c.in_ok-field.ensures.long
    c.in-Ok.ensures.cases.1 in
    subst (λ (t : List ℕ). Stands is_text text_bytes whole t c.take.new.self) (sym (c.in_ok-copy_of-in-Ok.ensures ∙ c.in-Ok.ensures.cases.0)) read

pub returns-in-Err-clause-bad : goal.returns-in-Err-clause-bad
returns-in-Err-clause-bad c = λ bad text rest s.
    let field = field_is_text c.args.reader.now c.read.new.reader c.take.new.self rest c.in_ok-field.field.now text c.in_ok-size.size c.in_ok-size.ensures.ok c.in_ok-field.ensures.ok c.in_ok-field.ensures.long s in
    c.in-Err.ensures.cases.0 (subst IsUtf8 (sym field) (text_utf8 text s.in_range))
