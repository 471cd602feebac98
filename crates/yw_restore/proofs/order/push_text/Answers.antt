use Rattle.std.proofs.Common.{◌≡◌, ◌∙◌, ◌∷◌, [], List, ℕ, Option, Some, None, ap, refl, sym}
use Rattle.std.proofs.lemmas.Result.{on_ok_weaker}
use Rattle.std.specs.Option.{option_copied}
use Rattle.yw_restore.proofs.Growing.{none_more, one_more}
use Rattle.yw_restore.proofs.UnderName.{listed, none_listed}
use Rattle.yw_restore.proofs.order.push_text.Goals as goal
use Rattle.yw_restore.specs.Lines.{text_of_line}

pub returns-in-Some : goal.returns-in-Some
returns-in-Some c =
    on_ok_weaker c.push.result (λ pushed. one_more text_of_line c.args.lines.now c.push.new.self _ _ pushed
    (listed c.args.name.now _ _ (sym c.text_under.ensures ∙ ap option_copied c.in-Some.is))) c.push.ensures.ok

pub returns-in-None : goal.returns-in-None
returns-in-None c = none_more text_of_line c.args.lines.now _
    (none_listed c.args.name.now _ (sym c.text_under.ensures ∙ ap option_copied c.in-None.is))
