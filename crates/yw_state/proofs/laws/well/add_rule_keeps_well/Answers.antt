use Rattle.yw_state.proofs.AddRuleWell as add_rule
use Rattle.yw_state.proofs.laws.well.add_rule_keeps_well.Goals as goal

pub returns : goal.returns
returns g c = add_rule.add_rule_keeps_well g.R.Reads.reader
