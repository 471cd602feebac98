use Rattle.yw_read.proofs.KindLemmas.{flow_in-other}
use Rattle.yw_read.proofs.kinds.flow_in.Goals as goal

pub returns-then-values-ne2 : goal.returns-then-values-ne2
returns-then-values-ne2 c = flow_in-other c.args.values.now c.if-values-ne2.true
