use Rattle.yw_breaks.proofs.Marked.{continues}
use Rattle.yw_breaks.proofs.marks.continue_breaks.Goals as goal
use Rattle.yw_texts.specs.Texts.{reader}

pub returns : goal.returns
returns c = λ known s h.
    continues reader s c.args.at.now c.mark_at.result (c.mark_at.ensures known s h) c.continue_rule.result c.continue_rule.ensures
