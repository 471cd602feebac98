use Rattle.yw_check_sorts.proofs.FittingLemmas.{set_along}
use Rattle.yw_check_sorts.proofs.sorts.set_fits.Goals as goal

pub returns : goal.returns
returns c =
    set_along c.args.net.now c.args.task.now c.args.vars.now c.in_ok-outs.outs c.nested-scope.result c.as_slice.result.now c.requires.vars c.in_ok-outs.ensures c.nested-scope.ensures c.as_slice.ensures
    c.in_ok-fit.fit c.in_ok-fit.ensures
