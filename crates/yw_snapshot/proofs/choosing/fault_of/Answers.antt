use Rattle.yw_snapshot.proofs.Fronts.{fault_is}
use Rattle.yw_snapshot.proofs.choosing.fault_of.Goals as goal

pub returns-in-Some-clause-damage : goal.returns-in-Some-clause-damage
returns-in-Some-clause-damage c = λ file read. fault_is file c.args.head.now c.in-Some.head _ c.in-Some.is read c.header_fault.ensures.damage
