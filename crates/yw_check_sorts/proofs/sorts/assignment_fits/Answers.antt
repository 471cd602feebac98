use Rattle.yw_check_sorts.proofs.FittingLemmas.{assigned}
use Rattle.yw_check_sorts.proofs.sorts.assignment_fits.Goals as goal

pub returns : goal.returns
returns c =
    assigned c.args.vars.now c.args.scope.now c.args.assignment.now c.as_str.result.now c.as_str-2.result.now c.wanted_for-wanted.result c.wanted_for-wanted.ensures c.as_str.ensures c.as_str-2.ensures c.in_ok-fit.fit c.in_ok-fit.ensures
