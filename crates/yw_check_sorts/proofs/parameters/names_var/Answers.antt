use Rattle.std.proofs.Common.{map, ◌∙◌}
use Rattle.yw_read.specs.declared.raw.RawVar.{RawVar}
use Rattle.yw_check_sorts.proofs.ParameterLemmas.{among_vars}
use Rattle.yw_check_sorts.proofs.parameters.names_var.Goals as goal

pub returns : goal.returns
returns c =
    c.has.ensures (map (λ (v : RawVar). v.name) c.args.net.now.vars) c.requires ∙ among_vars c.args.net.now c.args.assignment.now c.as_str.result.now c.as_str.ensures
