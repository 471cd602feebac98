use Rattle.yw_judge.proofs.TellLemmas.{untouched}
use Rattle.yw_serve.proofs.top.tell_notice.Goals as goal

pub returns-clause-files : goal.returns-clause-files
returns-clause-files g c = untouched g.D.Desk c.args.desk.now (g.met.D.Desk.only_now c.args.desk.now)
