use Rattle.yw_breaks.proofs.Marked.{suspends}
use Rattle.yw_breaks.proofs.marks.suspend_breaks.Goals as goal
use Rattle.yw_texts.specs.Texts.{reader}

pub returns : goal.returns
returns c = λ known s h.
    suspends reader s c.args.at.now c.mark_at.result (c.mark_at.ensures known s h) c.suspend_rule.result c.suspend_rule.ensures
