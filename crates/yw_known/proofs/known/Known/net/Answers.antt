use Rattle.std.proofs.Common.{ap, sym, ◌∙◌}
use Rattle.std.specs.Prelude.{slice_get}
use Rattle.yw_known.proofs.Rows.{known_net, row_there, upstream_there}
use Rattle.yw_known.proofs.known.Known.net.Goals as goal

pub returns-in_err-row : goal.returns-in_err-row
returns-in_err-row c =
    let specs = c.self.inside.library.specs in
    let at = ap (λ z. slice_get z c.args.spec) (sym c.specs.ensures.all) ∙ sym c.in_ok-loaded.ensures in
    row_there specs c.self.inside.rows c.args.spec c.in_ok-loaded.loaded.now c.self.invariant at (sym c.in_err-row.ensures)

pub returns-in_err-up : goal.returns-in_err-up
returns-in_err-up c =
    let specs = c.self.inside.library.specs in
    let l = c.in_ok-loaded.loaded.now in
    let at = ap (λ z. slice_get z c.args.spec) (sym c.specs.ensures.all) ∙ sym c.in_ok-loaded.ensures in
    let fit = c.self.invariant.rows_fit c.args.spec l c.in_ok-row.row.now at (sym c.in_ok-row.ensures) in
    upstream_there l.spec.nets c.in_ok-row.row.now c.args.net c.in_ok-found.found.now fit (sym c.in_ok-found.ensures) (sym c.in_err-up.ensures)

pub returns : goal.returns
returns c =
    let l = c.in_ok-loaded.loaded.now in
    let at = ap (λ z. slice_get z c.args.spec) (sym c.specs.ensures.all) ∙ sym c.in_ok-loaded.ensures in
    known_net c.self.inside.library c.args.self.now c.self.inside.rows c.args.spec c.args.net _ l.text c.in_ok-row.row.now c.self.view_is c.self.invariant c.specs.ensures.accepted at
    (sym c.in_ok-row.ensures) (sym c.in_ok-found.ensures) (sym c.in_ok-up.ensures)
