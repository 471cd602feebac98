use Rattle.yw_work.proofs.Rules.{rule_open}
use Rattle.yw_work.proofs.rule_leaves_open.Goals as goal

pub returns : goal.returns
returns c = rule_open
