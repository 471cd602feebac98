use Rattle.std.proofs.Common.{◌∙◌}
use Rattle.yw_check_sorts.proofs.ParameterLemmas.{parameters_all}
use Rattle.yw_check_sorts.proofs.parameters.task_fits.Goals as goal

pub returns : goal.returns
returns c =
    parameters_all c.args.raw.now c.args.net.now c.args.task.now c.of.result c.as_slice.result.now (c.of.ensures ∙ c.requires.layer) c.as_slice.ensures
    c.in_ok-parameters_fit.field-0 c.in_ok-parameters_fit.ensures c.if-not-branch.false c.in_ok-fit.fit c.in_ok-fit.ensures
