use Rattle.std.proofs.Common.{◌∙◌, ◌++◌, ap, sym}
use Rattle.std.proofs.lemmas.Result.{on_ok_weaker}
use Rattle.yw_restore.proofs.ended.push_ended.Goals as goal
use Rattle.yw_restore.specs.Gathers.{row_if_ended}
use Rattle.yw_sites.proofs.Each.{nil_right}

pub returns-in-Some : goal.returns-in-Some
returns-in-Some c =
    on_ok_weaker c.push.result (λ pushed. pushed ∙ ap (λ o. c.args.rows.now ++ row_if_ended c.args.n o) (sym c.in-Some.is
    ∙ c.get.ensures)) c.push.ensures.ok

pub returns-in-None : goal.returns-in-None
returns-in-None c = sym (nil_right c.args.rows.now) ∙ ap (λ o. c.args.rows.now ++ row_if_ended c.args.n o) (sym c.in-None.is ∙ c.get.ensures)
