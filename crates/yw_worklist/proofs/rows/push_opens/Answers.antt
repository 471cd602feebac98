use Rattle.std.proofs.Common.{◌≡◌, ◌++◌, ◌∷◌, [], ap, append_assoc, subst, sym, take, take_all, ◌∙◌}
use Rattle.yw_sites.proofs.Each.{nil_right}
use Rattle.yw_worklist.proofs.Listing.{more_admitted}
use Rattle.yw_worklist.proofs.rows.push_opens.Goals as goal
use Rattle.yw_worklist.specs.Rows.{admitted}

pub loop-work-init : goal.loop-work-init
loop-work-init c = sym (nil_right c.args.rows.now)

pub loop-work-preserved : goal.loop-work-preserved
loop-work-preserved c =
    let old = c.args.rows.now in
    let roles = c.args.roles.now in
    let who = c.args.who.now in
    let at = c.args.at.now in
    let opens = c.args.opens.now in
    let i = c.loop-work.work-index in
    let o = c.work-item.result in
    c.in_ok-push_row.ensures ∙ ap (λ z. z ++ admitted roles who at (o ∷ [])) c.loop-work.invariant
    ∙ append_assoc old (admitted roles who at (take i opens)) (admitted roles who at (o ∷ []))
    ∙ ap (λ z. old ++ z) (sym (more_admitted roles who at opens i o c.loop-work-test.true c.work-item.is))

pub returns : goal.returns
returns c =
    subst (λ opens. c.loop-work.rows ≡ c.args.rows.now ++ admitted c.args.roles.now c.args.who.now c.args.at.now opens)
    (take_all c.loop-work.work-index c.args.opens.now c.loop-work-test.false) c.loop-work.invariant
