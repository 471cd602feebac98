use Rattle.yw_rule_walk.proofs.Walking as walking
use Rattle.yw_rule_walk.proofs.one_rule_more.Goals as goal

pub returns : goal.returns
returns c = walking.one_rule_more
