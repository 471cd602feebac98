use Rattle.std.proofs.Common.{◌++◌, [], ap, sym, unwrap_or, ◌∙◌}
use Rattle.yw_sites.proofs.Each.{nil_right}
use Rattle.yw_tree.proofs.OnResults.{on_ok}
use Rattle.yw_worklist.proofs.Listing.{rows_held, rows_listed}
use Rattle.yw_worklist.proofs.lists.Lists.push_rows.Goals as goal
use Rattle.yw_worklist.specs.Rows.{admitted}

pub returns-then-is_held : goal.returns-then-is_held
returns-then-is_held c =
    let rows = c.args.rows.now in
    sym (ap (λ z. rows ++ z) (rows_held c.args.self.now c.args.roles.now c.args.who.now c.args.at.now (sym c.is_held.ensures ∙ c.if-is_held.true)) ∙ nil_right rows)

pub returns-in-Some : goal.returns-in-Some
returns-in-Some c =
    let rows = c.args.rows.now in
    let free = sym c.is_held.ensures ∙ c.if-is_held.false in
    let listed = ap (λ o. unwrap_or o []) (sym c.in-Some.ensures.value) in
    on_ok c.push_opens.result _ _ c.push_opens.ensures
    (λ pushed. pushed ∙ ap (λ z. rows ++ z) (ap (admitted c.args.roles.now c.args.who.now c.args.at.now) c.as_slice.ensures
    ∙ sym (rows_listed c.args.self.now c.args.roles.now c.args.who.now c.args.at.now c.in-Some.opens.now free listed)))

pub returns-in-None : goal.returns-in-None
returns-in-None c =
    let rows = c.args.rows.now in
    let free = sym c.is_held.ensures ∙ c.if-is_held.false in
    let listed = ap (λ o. unwrap_or o []) (sym c.in-None.ensures.value) in
    sym (ap (λ z. rows ++ z) (rows_listed c.args.self.now c.args.roles.now c.args.who.now c.args.at.now [] free listed) ∙ nil_right rows)
