use Rattle.yw_engine.proofs.Coming.{quiet_by}
use Rattle.yw_engine.proofs.work.Work.is_case_quiet.Goals as goal

pub returns : goal.returns
returns c =
    quiet_by c.args.self.now.standing c.requires c.args.case c.known-known.result.now c.forest-forest.result.now c.next.result
    c.known-known.ensures c.forest-forest.ensures c.next.ensures c.is_quiet.result c.is_quiet.ensures
