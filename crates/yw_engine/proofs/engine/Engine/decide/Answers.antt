use Rattle.yw_engine.proofs.engine.Engine.decide.Goals as goal

pub decide_on-requires-clause-asked : goal.decide_on-requires-clause-asked
decide_on-requires-clause-asked c = c.requires.asked
