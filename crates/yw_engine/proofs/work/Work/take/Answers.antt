use Rattle.yw_engine.proofs.Coming.{built_is_plain}
use Rattle.yw_engine.proofs.work.Work.take.Goals as goal

pub act-requires-clause-plain : goal.act-requires-clause-plain
act-requires-clause-plain c = built_is_plain c.args.event.now c.requires.built
