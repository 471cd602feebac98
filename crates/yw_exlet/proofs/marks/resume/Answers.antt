use Rattle.yw_exlet.proofs.OwnSite.{continued}
use Rattle.yw_exlet.proofs.marks.resume.Goals as goal

pub returns : goal.returns
returns c = continued c.args.j.now c.args.forest.now c.write.new.forest c.write.ensures.boxed c.write.ensures.sites
