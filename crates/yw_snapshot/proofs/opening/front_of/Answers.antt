use Rattle.yw_snapshot.proofs.Beginning.{cut_in, front_in}
use Rattle.yw_snapshot.proofs.opening.front_of.Goals as goal

pub returns-then-size-len-clause-front : goal.returns-then-size-len-clause-front
returns-then-size-len-clause-front c = λ i is. cut_in i c.args.chosen.now is c.u64_in-size.result c.u64_in-size.ensures c.requires.size.0 c.if-size-len.true

pub returns-clause-front : goal.returns-clause-front
returns-clause-front c = λ i is.
    front_in i c.args.chosen.now is c.u64_in-size.result c.u64_in-size.ensures c.requires.size.0 c.u64_in.result c.u64_in-2.result c.u64_in.ensures c.u64_in-2.ensures c.if-size-len.false
