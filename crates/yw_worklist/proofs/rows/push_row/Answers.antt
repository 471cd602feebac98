use Rattle.std.proofs.Common.{◌++◌, ◌∷◌, [], ap, sym, ◌∙◌}
use Rattle.yw_sites.proofs.Each.{nil_right}
use Rattle.yw_tree.proofs.OnResults.{on_ok}
use Rattle.yw_worklist.proofs.Listing.{kept_out, let_in}
use Rattle.yw_worklist.proofs.rows.push_row.Goals as goal

pub returns-then-not-admits : goal.returns-then-not-admits
returns-then-not-admits c =
    let rows = c.args.rows.now in
    sym (ap (λ z. rows ++ z) (kept_out c.args.roles.now c.args.who.now c.args.at.now c.args.work.now (sym c.admits.ensures ∙ c.if-not-admits.true)) ∙ nil_right rows)

pub returns : goal.returns
returns c =
    let rows = c.args.rows.now in
    on_ok c.push.result _ _ c.push.ensures.ok
    (λ pushed. pushed ∙ ap (λ r. rows ++ r ∷ []) c.in_ok-row.ensures
    ∙ ap (λ z. rows ++ z) (sym (let_in c.args.roles.now c.args.who.now c.args.at.now c.args.work.now (sym c.admits.ensures ∙ c.if-not-admits.false))))
