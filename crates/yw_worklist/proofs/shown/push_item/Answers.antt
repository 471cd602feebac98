use Rattle.std.proofs.Common.{◌∙◌, ◌++◌, ◌∷◌, [], ap, sym}
use Rattle.std.proofs.lemmas.Result.{on_ok_weaker}
use Rattle.yw_known.specs.Here.{as_item_at}
use Rattle.yw_sites.proofs.Each.{nil_right}
use Rattle.yw_worklist.proofs.Here.{item_shown, no_item_shown}
use Rattle.yw_worklist.proofs.shown.push_item.Goals as goal

pub returns-in_ok-item_row-in-Some : goal.returns-in_ok-item_row-in-Some
returns-in_ok-item_row-in-Some c =
    on_ok_weaker c.push.result (λ pushed s x held.
    let is = c.in-Some.ensures s held in
    pushed ∙ ap (λ r. c.args.rows.now ++ (r ∷ [])) c.in_ok-item_row-in-Some.ensures
    ∙ ap (λ z. c.args.rows.now ++ z) (sym (item_shown s c.args.at.now x (as_item_at c.args.known.now c.in-Some.here) is.at))) c.push.ensures.ok

pub returns-in-None : goal.returns-in-None
returns-in-None c = λ s x held. sym (ap (λ z. c.args.rows.now ++ z) (no_item_shown s c.args.at.now x (c.in-None.ensures s held)) ∙ nil_right c.args.rows.now)
