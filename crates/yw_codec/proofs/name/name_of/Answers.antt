use Rattle.std.proofs.Common.{◌≡◌, ◌∙◌, sym, subst, ap, refl, true, false, Err}
use Rattle.std.specs.Str.{IsUtf8}
use Rattle.yw_base.specs.Spelling.{is_name}
use Rattle.yw_base.specs.declared.name.NameFault.{NameFault}
use Rattle.yw_codec.specs.FieldLaws.{field_is_name}
use Rattle.yw_codec.proofs.Names.{name_utf8}
use Rattle.yw_codec.proofs.name.name_of.Goals as goal

pub returns-in_default-clause-bad : goal.returns-in_default-clause-bad
returns-in_default-clause-bad c = λ bad name rest s.
    let field = field_is_name c.args.size c.args.reader.now c.in_ok-field.field.now c.take.new.self name rest c.in_ok-field.ensures.ok (c.in_ok-field.ensures.long ∙ c.from.ensures) s in
    c.in_default.ensures.cases.0 (subst IsUtf8 (sym field) (name_utf8 name s.in_range))

pub returns-in-Err-Shape-clause-bad : goal.returns-in-Err-Shape-clause-bad
returns-in-Err-Shape-clause-bad c = λ bad name rest s.
    let field = field_is_name c.args.size c.args.reader.now c.in_ok-field.field.now c.take.new.self name rest c.in_ok-field.ensures.ok (c.in_ok-field.ensures.long ∙ c.from.ensures) s in
    let none : is_name c.in-Ok.text.now ≡ false = c.in-Err-Shape.ensures.shape.0 (ap (λ (f : NameFault). Err f) c.in-Err-Shape.field-0-is) in
    let one : is_name c.in-Ok.text.now ≡ true = ap is_name (c.in-Ok.ensures.cases.0 ∙ field) ∙ s.in_range in
    cc
