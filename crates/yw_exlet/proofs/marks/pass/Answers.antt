use Rattle.yw_exlet.proofs.OwnSite.{let_pass}
use Rattle.yw_exlet.proofs.marks.pass.Goals as goal

pub returns : goal.returns
returns c = let_pass c.args.j.now c.args.forest.now c.write.new.forest c.write.ensures.boxed c.args.check c.write.ensures.sites
