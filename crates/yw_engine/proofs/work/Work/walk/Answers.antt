use Rattle.yw_engine.proofs.Coming.{walked_by}
use Rattle.yw_engine.proofs.work.Work.walk.Goals as goal

pub returns : goal.returns
returns c =
    walked_by c.args.self.now.standing c.requires c.args.case c.known-known.result.now c.forest-forest.result.now c.next.result
    c.known-known.ensures c.forest-forest.ensures c.next.ensures c.next_event.result c.next_event.ensures
