use Rattle.yw_exlet.proofs.OwnSite.{suspended}
use Rattle.yw_exlet.proofs.marks.suspend.Goals as goal

pub returns : goal.returns
returns c = suspended c.args.j.now c.args.forest.now c.write.new.forest c.write.ensures.boxed c.write.ensures.sites
