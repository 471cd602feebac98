use Rattle.std.proofs.Common.{subst}
use Rattle.yw_known.proofs.Judging.{tells_case}
use Rattle.yw_known.proofs.known.Known.case_checks.Goals as goal
use Rattle.yw_library.specs.Holdings.{Holdings}
use Rattle.yw_trees.specs.Owners.{NamesCases}

pub returns : goal.returns
returns c =
    tells_case c.args.self.now (subst (λ (h : Holdings). NamesCases h.specs) c.library.ensures c.named_after.ensures.cases) c.args.spec
    c.has_rule.result c.has_rule.ensures
