use Rattle.std.proofs.Common.{subst, sym}
use Rattle.yw_exlet.proofs.OwnSite.{case_there}
use Rattle.yw_exlet.proofs.own.write.Goals as goal
use Rattle.yw_tree.specs.Coming.{TargetStands}

pub write_at_case-requires-clause-stands : goal.write_at_case-requires-clause-stands
write_at_case-requires-clause-stands c =
    case_there c.args.forest.now c.numbers.result.now c.in-len1.len_at_least c.in-len1.len_below
    (subst (TargetStands c.args.forest.now) (sym c.numbers.ensures.numbers) c.requires.stands)
