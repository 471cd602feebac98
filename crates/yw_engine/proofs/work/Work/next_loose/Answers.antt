use Rattle.yw_engine.proofs.Coming.{loose_by}
use Rattle.yw_engine.proofs.work.Work.next_loose.Goals as goal

pub returns-clause-found : goal.returns-clause-found
returns-clause-found c = loose_by c.args.self.now.standing c.requires c.args.case c.next_event.result c.next_event.ensures.found
