use Rattle.yw_breaks.proofs.Fronts.{advances}
use Rattle.yw_breaks.proofs.cases.advance_breaks.Goals as goal
use Rattle.yw_texts.specs.Texts.{reader}

pub returns : goal.returns
returns c = λ known s h. advances reader s c.args.case.now c.case_rule.result (c.case_rule.ensures known s h)
