use Rattle.yw_state.proofs.OneRule.{query-breaks-one}
use Rattle.yw_state.proofs.laws.gone.query_breaks_one_rule.Goals as goal

pub returns : goal.returns
returns c = query-breaks-one
