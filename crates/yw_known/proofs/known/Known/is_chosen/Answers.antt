use Rattle.std.proofs.Common.{subst}
use Rattle.yw_known.proofs.Judging.{tells_chosen}
use Rattle.yw_known.proofs.known.Known.is_chosen.Goals as goal
use Rattle.yw_library.specs.Holdings.{Holdings}
use Rattle.yw_trees.specs.Owners.{NamesTasks}

pub returns : goal.returns
returns c =
    tells_chosen c.args.self.now (subst (λ (h : Holdings). NamesTasks h.specs) c.library.ensures c.named_after.ensures.tasks) c.args.spec c.args.net
    c.args.task c.has_rule.result c.has_rule.ensures
