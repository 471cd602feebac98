use Rattle.std.proofs.Common.{◌∙◌}
use Rattle.std.specs.Option.{option_copied}
use Rattle.yw_accept.specs.Scopes.{vars_scope}
use Rattle.yw_build.proofs.ExpressionLemmas.{meant}
use Rattle.yw_build.proofs.branches.branch_of.Goals as goal

pub maybe_expr-requires : goal.maybe_expr-requires
maybe_expr-requires c = meant c.of.result (vars_scope c.args.numbers.now.said.now) (option_copied c.as_ref.result) c.args.said.now.when (c.of.ensures ∙ c.requires.numbers.vars) c.as_ref.ensures.value c.requires.ready.when
