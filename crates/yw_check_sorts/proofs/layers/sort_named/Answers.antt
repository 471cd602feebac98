use Rattle.std.proofs.Common.{◌∙◌, sym}
use Rattle.yw_check_sorts.proofs.LayerLemmas.{sort_at_place, no_sort}
use Rattle.yw_check_sorts.proofs.layers.sort_named.Goals as goal

pub returns-in_err-place : goal.returns-in_err-place
returns-in_err-place c = c.from_residual.ensures ∙ no_sort c.args.layer.now c.args.name.now (sym c.in_err-place.ensures.place)

pub returns : goal.returns
returns c = sort_at_place c.args.layer.now c.args.name.now c.in_ok-place.place c.sort_at.result (sym c.in_ok-place.ensures.place) c.sort_at.ensures
