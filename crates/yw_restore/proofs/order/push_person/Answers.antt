use Rattle.std.proofs.Common.{◌∙◌, ap, refl, sym}
use Rattle.std.proofs.lemmas.Result.{on_ok_weaker}
use Rattle.std.specs.Option.{option_copied}
use Rattle.yw_restore.proofs.Growing.{none_more, one_more}
use Rattle.yw_restore.proofs.order.push_person.Goals as goal
use Rattle.yw_restore.specs.Lines.{row_of_person}
use Rattle.yw_restore.specs.Names.{row_if_person}

pub returns-in-Some : goal.returns-in-Some
returns-in-Some c =
    on_ok_weaker c.push.result (λ pushed. one_more row_of_person c.args.lines.now c.push.new.self _ _ pushed
    (ap (row_if_person c.args.name.now) (sym (ap option_copied c.in-Some.is) ∙ c.roles.ensures))) c.push.ensures.ok

pub returns-in-None : goal.returns-in-None
returns-in-None c = none_more row_of_person c.args.lines.now _
    (ap (row_if_person c.args.name.now) (sym c.roles.ensures ∙ ap option_copied c.in-None.is))
