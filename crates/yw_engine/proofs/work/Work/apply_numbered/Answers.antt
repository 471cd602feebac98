use Rattle.std.proofs.Common.{refl}
use Rattle.yw_engine.proofs.work.Work.apply_numbered.Goals as goal

pub take_numbered-requires-clause-leads : goal.take_numbered-requires-clause-leads
take_numbered-requires-clause-leads c = c.in-Some.ensures.leads

pub take_numbered-requires-clause-numbered : goal.take_numbered-requires-clause-numbered
take_numbered-requires-clause-numbered c = c.in-Some.ensures.numbered

pub returns-in-None-clause-applied : goal.returns-in-None-clause-applied
returns-in-None-clause-applied c = (c.in-None.ensures, refl)
