use Rattle.std.proofs.Common.{◌∙◌}
use Rattle.yw_check_tasks.proofs.NameLemmas.{branches_agree}
use Rattle.yw_check_tasks.proofs.splits.branches_fit.Goals as goal

pub returns : goal.returns
returns c =
    c.share_outputs.ensures ∙ branches_agree c.args.outputs.now c.args.branches.now c.in_ok-given.given c.in_ok-named.named c.in_ok-given.ensures c.in_ok-named.ensures _
