use Rattle.yw_state.proofs.OneRule.{command-breaks-one}
use Rattle.yw_state.proofs.laws.gone.command_breaks_one_rule.Goals as goal

pub returns : goal.returns
returns g c = λ s command a b one. command-breaks-one g.R.Reads.reader one s command a b
